-- SipHash-1-3 with the key 00 01 02 .. 0f, of no byte and of the bytes 00 to 07, as a program apart computed them. That program
-- agrees with Rust's `DefaultHasher`, whose key is 0. The last word is the block with the length, which keys of one length lack.
use Rattle.table_words.proofs.Prelude.{◌≡◌, [], ◌∷◌, refl}
use Rattle.table_words.specs.declared.sip.Secret.{Secret}
use Rattle.table_words.specs.Sip.{begun, rounded, absorbed, finished, sip_hash}

abbrev pub key : Secret
key = record { first = 0x0706_0504_0302_0100; second = 0x0f0e_0d0c_0b0a_0908 }

pub of-none : sip_hash key (0 ∷ []) ≡ 0xabac_0158_050f_c4dc
unfolding begun rounded absorbed finished
of-none = refl

pub of-eight : sip_hash key (0x0706_0504_0302_0100 ∷ 0x0800_0000_0000_0000 ∷ []) ≡ 0x3690_9511_8d29_9a8e
unfolding begun rounded absorbed finished
of-eight = refl

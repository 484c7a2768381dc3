-- The lists of one map more.
use Rattle.bpf_model.proofs.Prelude.{◌∙◌, ℕ, List, [], ◌∷◌, ◌++◌, Some, None, refl, sym, ap, append_assoc, flat_map, MapView}
use Rattle.std.proofs.Common.{append-nil}
use Rattle.script_lines.specs.declared.reply.Reply.{Reply}
use Rattle.script_lines.specs.declared.reply.Reply.TheVariants.{End}
use Rattle.script_lines.specs.ReplyText.{reply_text}
use Rattle.control.specs.Replies.{AreElements}
use Rattle.commands.specs.Runs.{AreDumps}

pub one_dump_more : (maps : List MapView) (m : MapView) (text : List ℕ) (elements : List Reply) → AreDumps maps text →
    AreElements (Some m) None elements → AreDumps (maps ++ m ∷ [])
    (text ++ flat_map reply_text (elements ++ End ∷ []))
one_dump_more [] m text elements before are =
    let added = flat_map reply_text (elements ++ End ∷ []) in
    (elements, [], are, refl, ap (λ (t : List ℕ). t ++ added) before ∙ sym (append-nil added))
one_dump_more (n ∷ maps) m text elements (first, rest, are_first, before, is) are =
    let added = flat_map reply_text (elements ++ End ∷ []) in
    let start = flat_map reply_text (first ++ End ∷ []) in
    (first, rest ++ added, are_first, one_dump_more maps m rest elements before are, ap (λ (t : List ℕ). t ++ added) is ∙ append_assoc start rest added)

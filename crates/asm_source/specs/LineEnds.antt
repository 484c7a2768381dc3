-- The line ends of other systems.
use Rattle.std.specs.Prelude.{ℕ, ◌==◌, ◌&&◌, Bool, false, if◌then◌else◌, List, [], ◌∷◌}

-- the text begins with a line feed, which is byte 10
abbrev pub begins_fed : List ℕ → Bool
begins_fed [] = false
begins_fed (b ∷ text) = b == 10

-- the text without each carriage return, which is byte 13, that stands before a line feed
abbrev pub with_feeds : List ℕ → List ℕ
with_feeds [] = []
with_feeds (b ∷ text) = if b == 13 && begins_fed text then with_feeds text else b ∷ with_feeds text

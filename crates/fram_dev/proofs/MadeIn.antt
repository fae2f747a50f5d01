-- The words after some writes.
use Rattle.std.proofs.Common.{◌≡◌, ℕ, List, [], ◌∷◌, ◌++◌, length, set, refl, ◌∙◌}
use Rattle.std.proofs.lemmas.List.{length-set}
use Rattle.fram_dev.specs.Device.{Change, made_in}

pub length-made_in : (log : List Change) (words : List ℕ) → length (made_in log words) ≡ length words
length-made_in [] words = refl
length-made_in (w ∷ log) words = length-made_in log (set words w.0 w.1) ∙ length-set words w.0 w.1

pub made_in-append : (log more : List Change) (words : List ℕ) → made_in (log ++ more) words ≡ made_in more (made_in log words)
made_in-append [] more words = refl
made_in-append (v ∷ log) more words = made_in-append log more (set words v.0 v.1)

made_in-push : (log : List Change) (at v : ℕ) (words : List ℕ) → made_in (log ++ (at, v) ∷ []) words ≡ set (made_in log words) at v
made_in-push log at v words = made_in-append log ((at, v) ∷ []) words

-- one write more
pub write_more : (words : List ℕ) (log new : List Change) (at v : ℕ) (start : List ℕ) → new ≡ log ++ (at, v) ∷ [] → words ≡ made_in log start → set words at v ≡ made_in new start
write_more words log new at v start e h = rw (e, made_in-push, ← h) refl

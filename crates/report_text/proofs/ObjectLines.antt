-- Each object of a set has its line in the report of as many objects.
use Rattle.std.proofs.Common.{◌≡◌, ℕ, zero, suc, ◌<◌, List, [], ◌∷◌, ◌++◌, length, take, drop, get_or, refl, ap, ◌∙◌, append_assoc, arith}
use Rattle.kernel_model.specs.Effects.{Objects, object_words}
use Rattle.set_model.specs.Sets.{ObjPart}
use Rattle.report_text.specs.Lines.{object_text}
use Rattle.report_text.specs.Report.{objects_text}

regrouped : (x a b c : List ℕ) → x ++ ((a ++ b) ++ c) ≡ ((x ++ a) ++ b) ++ c
regrouped x a b c = simp append_assoc

pub line_at : (d : ObjPart) (parts : List ObjPart) (objects : Objects) (o : ℕ) → length objects ≡ length parts → o < length parts
    → objects_text parts objects ≡ objects_text (take o parts) (take o objects) ++ object_text (get_or parts o d).name (object_words objects o) ++ objects_text (drop (suc o) parts) (drop (suc o) objects)
line_at d [] objects o e l = absurd (omega arith)
line_at d (p ∷ parts) [] o e l = absurd (omega arith)
line_at d (p ∷ parts) (w ∷ objects) zero e l = refl
line_at d (p ∷ parts) (w ∷ objects) (suc o) e l =
    ap (λ text. object_text p.name w ++ text) (line_at d parts objects o (omega arith) (omega arith))
    ∙ regrouped (object_text p.name w) (objects_text (take o parts) (take o objects)) (object_text (get_or parts o d).name (object_words objects o)) (objects_text (drop (suc o) parts) (drop (suc o) objects))

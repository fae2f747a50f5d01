-- All turns of a commit.
use Rattle.std.proofs.Common.{◌≡◌, ℕ, zero, suc, ◌+◌, ◌<◌, ◌≤◌, List, [], ◌∷◌, ◌++◌, length, take, ap, sym, ◌∙◌, subst, arith, append-nil}
use Rattle.std.proofs.lemmas.List.{append_assoc, take_all, take_more}
use Rattle.set_model.specs.Limits.{IsTaskSet}
use Rattle.device_model.specs.Words.{Change}
use Rattle.device_model.specs.Devices.{HoldsOn, IsKindOn, layout_on, need_on}
use Rattle.device_model.proofs.ForCallers.{laid_out_set}
use Rattle.device_model.proofs.InRange.{commit-low}
use Rattle.commit_writer.specs.Courses.{Course, held_after, writes_of}
use Rattle.commit_writer.specs.Turns.{IsUnderWayIn, words_in, write_number}
use Rattle.commit_writer.proofs.Advancing.{every_place}
use Rattle.commit_writer.proofs.Images.{holds_after, holds_before, under_way_more}

pub goes_on : (g : Course) (start : List ℕ) (log : List Change) (k : ℕ) → IsTaskSet g.device.set → IsUnderWayIn g 0 start log → k ≤ length (writes_of g) → IsUnderWayIn g k start (log ++ take k (writes_of g))
goes_on g start log zero t u l = let P : List Change → Type 0 = λ x. IsUnderWayIn g 0 start x in subst P (sym (append-nil log)) u
goes_on g start log (suc k) t u l =
    let d = g.device in
    let v = goes_on g start log k t u (omega arith) in
    let a : k < length (writes_of g) = omega arith in
    let fits : (write_number g k).0 < need_on d = every_place (λ c. c.0 < need_on d) (writes_of g) k (commit-low d.set (layout_on d) g.held g.commit (laid_out_set d.kind d.set t) u.under_way.kept.held u.under_way.next) a in
    let e : log ++ take (k + 1) (writes_of g) ≡ (log ++ take k (writes_of g)) ++ write_number g k ∷ [] =
    ap (λ (x : List Change). log ++ x) (take_more (writes_of g) k (0, 0) a) ∙ sym (append_assoc log (take k (writes_of g)) (write_number g k ∷ [])) in
    let P : ℕ → Type 0 = λ n. IsUnderWayIn g n start (log ++ take n (writes_of g)) in
    let s : k + 1 ≡ suc k = omega arith in
    subst P s (under_way_more g k start (log ++ take k (writes_of g)) (log ++ take (k + 1) (writes_of g)) v a fits e)

pub holds_then : (g : Course) (start : List ℕ) (log : List Change) (k : ℕ) → IsTaskSet g.device.set → IsKindOn g.device → IsUnderWayIn g 0 start log → k < length (writes_of g) → HoldsOn g.device g.held (words_in start (log ++ take k (writes_of g)))
holds_then g start log k t n u l = holds_before g k start (log ++ take k (writes_of g)) t n (goes_on g start log k t u (omega arith)) l

pub holds_at_end : (g : Course) (start : List ℕ) (log : List Change) → IsTaskSet g.device.set → IsKindOn g.device → IsUnderWayIn g 0 start log → HoldsOn g.device (held_after g) (words_in start (log ++ writes_of g))
holds_at_end g start log t n u =
    let all : ℕ = length (writes_of g) in
    let P : List Change → Type 0 = λ x. HoldsOn g.device (held_after g) (words_in start (log ++ x)) in
    let low : all ≤ all = omega arith in
    subst P (take_all all (writes_of g) low) (holds_after g all start (log ++ take all (writes_of g)) t n (goes_on g start log all t u low) low)

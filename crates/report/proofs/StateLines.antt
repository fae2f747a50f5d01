-- The lines of the state: each that is read is as it is written.
use Rattle.std.proofs.Common.{◌≡◌, ℕ, zero, suc, List, [], ◌∷◌, ◌++◌, codes, get_or, true, Some, flat_map, length, refl, sym, ap, ◌∙◌, subst, append_assoc, append-nil}
use Rattle.std.specs.Option.{option_and_then}
use Rattle.std.specs.List.{AllByRecursion}
use Rattle.std.specs.Cmp.Lexicographic.{same_text}
use Rattle.std.proofs.lemmas.Option.{option_and_then_some}
use Rattle.nv_base.specs.Texts.{field}
use Rattle.kernel_model.specs.Replay.{TaskRec}
use Rattle.set_model.specs.Sets.{TaskSet, ObjPart, program_at}
use Rattle.set_model.specs.Limits.{IsWord}
use Rattle.report_text.specs.Lines.{line_feed, end_text, object_text, open_text, done_text}
use Rattle.report_text.specs.Reports.{IsToldTask}
use Rattle.report.specs.Fields.{values_in, behind}
use Rattle.report.specs.LineReading.{end_shape, end_in, words_shape, object_in, open_shape, open_task, open_in, is_done}
use Rattle.report.proofs.Shapes.{AreOf, shape_text, values_mean, behind_means}
use Rattle.report.proofs.EventLines.{Each, line_means, four, mapped}

-- ---- the `end` line

pub record IsEndLine (text values : List ℕ) : Type 0 where
  pub clock : IsWord (get_or values 0 0)
  pub number : IsWord (get_or values 1 0)
  pub next : IsWord (get_or values 2 0)
  pub boots : IsWord (get_or values 3 0)
  pub text_is : end_text (get_or values 0 0) (get_or values 1 0) (get_or values 2 0) (get_or values 3 0) ≡ text ++ line_feed

end_told : (set : TaskSet) → Each set end_shape (λ vs. IsEndLine (shape_text set end_shape vs) vs)
end_told set clock c number n next i boots b = record {
  clock = c;
  number = n;
  next = i;
  boots = b;
  text_is = four (field (codes "end clock ") clock) (field (codes " number ") number) (field (codes " next ") next) (field (codes " boots ") boots) line_feed;
}

pub end_means : (set : TaskSet) (text values : List ℕ) → end_in set text ≡ Some values → IsEndLine text values
end_means set text values e = line_means set end_shape (λ vs t. IsEndLine t vs) (end_told set) text values e

-- ---- lines of objects

pub record IsObjectLine (o : ObjPart) (text words : List ℕ) : Type 0 where
  pub size : length words ≡ o.size
  pub words_are : AllByRecursion IsWord words
  pub text_is : object_text o.name words ≡ text ++ line_feed

pub record AreWords (set : TaskSet) (n : ℕ) (words : List ℕ) : Type 0 where
  pub number : length words ≡ n
  pub each : AllByRecursion IsWord words
  pub text : flat_map (field (codes " ")) words ≡ shape_text set (words_shape n) words

pub words_mean : (set : TaskSet) (n : ℕ) (words : List ℕ) → AreOf set (words_shape n) words → AreWords set n words
words_mean set zero [] h = record { number = refl; each = tt; text = refl }
words_mean set zero (w ∷ words) h = absurd h
words_mean set (suc n) [] h = absurd h
words_mean set (suc n) (w ∷ words) h =
    let so = words_mean set n words h.1 in
    record { number = ap suc so.number; each = (h.0, so.each); text = ap (λ t. field (codes " ") w ++ t) so.text }

pub object_means : (set : TaskSet) (o : ObjPart) (text words : List ℕ) → object_in set o text ≡ Some words → IsObjectLine o text words
object_means set o text words e =
    option_and_then_some (λ named. option_and_then (values_in set (words_shape o.size)) (behind o.name named)) (behind (codes "object ") text) words e (λ named first more.
    option_and_then_some (values_in set (words_shape o.size)) (behind o.name named) words more (λ values second last.
    let so = values_mean set (words_shape o.size) values words last in
    let are = words_mean set o.size words so.1 in
    let named_is = behind_means o.name named values second in
    let text_is = behind_means (codes "object ") text named first in
    record {
      size = are.number;
      words_are = are.each;
      text_is = ap (λ t. ((codes "object " ++ o.name) ++ t) ++ line_feed) (are.text ∙ so.0)
          ∙ ap (λ t. t ++ line_feed) (append_assoc (codes "object ") o.name values ∙ ap (λ t. codes "object " ++ t) named_is ∙ text_is);
    }))

-- ---- lines of open tasks

pub record IsOpenLine (set : TaskSet) (text : List ℕ) (t : TaskRec) : Type 0 where
  pub told : IsToldTask set t
  pub text_is : open_text set t ≡ text ++ line_feed

pub pieces : (a s n c l : List ℕ) → (((a ++ s) ++ n) ++ c) ++ l ≡ (a ++ ((s ++ n) ++ (c ++ []))) ++ l
pieces a s n c l = simp (append_assoc, append-nil)

open_told : (set : TaskSet) → Each set open_shape (λ vs. IsOpenLine set (shape_text set open_shape vs) (open_task vs))
open_told set id i program p arg a = record {
  told = record { id = i; program = p; arg = a };
  text_is = pieces (field (codes "open ") id) (codes " ") (program_at set program).name (field (codes " ") arg) line_feed;
}

pub open_means : (set : TaskSet) (text : List ℕ) (t : TaskRec) → open_in set text ≡ Some t → IsOpenLine set text t
open_means set text t e = mapped open_task (values_in set open_shape text) t e (λ values told same.
    subst (IsOpenLine set text) same (line_means set open_shape (λ vs x. IsOpenLine set x (open_task vs)) (open_told set) text values told))

-- ---- the last line

pub done_means : (text : List ℕ) → is_done text ≡ true → done_text ≡ text ++ line_feed
done_means text e = ap (λ t. t ++ line_feed) (sym (same_text text (codes "done") (sym e)))

-- The lines of events: each that is read is told by an event, and each that is written is read.
use Rattle.std.proofs.Common.{◌≡◌, ℕ, ◌||◌, true, List, [], ◌∷◌, ◌++◌, codes, Option, Some, None, option_map, nat_eq, refl, sym, subst, inl, inr, append_assoc, append-nil, is_some, true≢false, ◌⊎◌}
use Rattle.std.specs.Option.{option_or}
use Rattle.std.specs.Cmp.Lexicographic.{pointwise, same_text}
use Rattle.std.proofs.lemmas.Bool.{or_cases}
use Rattle.std.proofs.lemmas.Option.{none-some, same_Some}
use Rattle.nv_base.specs.Texts.{field}
use Rattle.kernel_model.specs.Items.{Entry}
use Rattle.kernel_model.specs.Turns.{Line, Start, Stale, RefuseEmpty, RefuseSlots, RefuseRecords, Finish, Found, Failed, Booted}
use Rattle.set_model.specs.Sets.{TaskSet, object_at}
use Rattle.report_text.specs.Causes.{numbered_cause_word}
use Rattle.report_text.specs.Lines.{line_feed, line_text, entry_text}
use Rattle.report_text.specs.Reports.{IsTold, IsToldEntry, line_count, listed_at}
use Rattle.report.specs.Fields.{Shape, values_in, fits}
use Rattle.report.specs.LineReading.{start_shape, pair_shape, slots_shape, boot_shape, exit_shape, trap_shape, exit_entry, trap_entry, is_attempt, is_refusal, is_power, is_quiet, entry_in, finish_in}
use Rattle.report.proofs.Values.{IsOf}
use Rattle.report.proofs.Shapes.{AreOf, shape_text, values_mean}

-- ---- what holds of all values of a shape

abbrev pub Each : TaskSet → Shape → (List ℕ → Type 0) → Type 0
Each set [] P = P []
Each set (f ∷ shape) P = (v : ℕ) → IsOf set f.1 v → Each set shape (λ values. P (v ∷ values))

pub each_value : (set : TaskSet) (shape : Shape) (P : List ℕ → Type 0) → Each set shape P → (values : List ℕ) → AreOf set shape values → P values
each_value set [] P all [] h = all
each_value set [] P all (v ∷ values) h = absurd h
each_value set (f ∷ shape) P all [] h = absurd h
each_value set (f ∷ shape) P all (v ∷ values) h = each_value set shape (λ vs. P (v ∷ vs)) (all v h.0) values h.1

-- a line of values is as it is written
pub line_means : (set : TaskSet) (shape : Shape) (P : List ℕ → List ℕ → Type 0) → Each set shape (λ vs. P vs (shape_text set shape vs)) → (text values : List ℕ) → values_in set shape text ≡ Some values → P values text
line_means set shape P all text values e =
    let h = values_mean set shape text values e in
    subst (λ t. P values t) h.0 (each_value set shape (λ vs. P vs (shape_text set shape vs)) all values h.1)

fit_means : (set : TaskSet) (shape : Shape) (P : List ℕ → Type 0) → Each set shape (λ vs. P (shape_text set shape vs)) → (text : List ℕ) → fits set shape text ≡ true → P text
fit_means set shape P all text e = go (values_in set shape text) refl e
  where
    go : (o : Option (List ℕ)) → values_in set shape text ≡ o → is_some o ≡ true → P text
    go None is f = absurd (true≢false (sym f))
    go (Some values) is f = line_means set shape (λ vs t. P t) all text values is

-- ---- pieces of a line

pub one : (a l : List ℕ) → a ++ l ≡ (a ++ []) ++ l
one a l = simp append-nil refl

pub three : (a b c l : List ℕ) → ((a ++ b) ++ c) ++ l ≡ (a ++ (b ++ (c ++ []))) ++ l
three a b c l = simp (append_assoc, append-nil)

pub four : (a b c d l : List ℕ) → (((a ++ b) ++ c) ++ d) ++ l ≡ (a ++ (b ++ (c ++ (d ++ [])))) ++ l
four a b c d l = simp (append_assoc, append-nil)

pub five : (a b c d e l : List ℕ) → ((((a ++ b) ++ c) ++ d) ++ e) ++ l ≡ (a ++ (b ++ (c ++ (d ++ (e ++ []))))) ++ l
five a b c d e l = simp (append_assoc, append-nil)

-- ---- lines that tell no finish

-- the line is that of an event, and of no other
pub record IsLineOf (set : TaskSet) (text : List ℕ) (l : Line) : Type 0 where
  pub told : IsTold set l
  pub text_is : line_text set l ≡ text ++ line_feed
  pub one_line : line_count l ≡ 1

pub record IsQuietLine (set : TaskSet) (text : List ℕ) : Type 0 where
  pub event : Line
  pub is_line : IsLineOf set text event
  pub quiet : (n : ℕ) → listed_at n event ≡ []

start_told : (set : TaskSet) → Each set start_shape (λ vs. IsQuietLine set (shape_text set start_shape vs))
start_told set core c task t at a = record {
  event = Start core task at;
  is_line = record { told = (c, t, a); text_is = three (field (codes "start core ") core) (field (codes " task ") task) (field (codes " at ") at) line_feed; one_line = refl };
  quiet = λ n. refl;
}

abbrev stale_shape : Shape
stale_shape = pair_shape (codes "stale ")

stale_told : (set : TaskSet) → Each set stale_shape (λ vs. IsQuietLine set (shape_text set stale_shape vs))
stale_told set lo l hi h core c task t = record {
  event = Stale core task lo hi;
  is_line = record { told = (c, t, l, h); text_is = four (field (codes "stale ") lo) (field (codes " ") hi) (field (codes " core ") core) (field (codes " task ") task) line_feed; one_line = refl };
  quiet = λ n. refl;
}

abbrev empty_shape : Shape
empty_shape = pair_shape (codes "refuse empty ")

empty_told : (set : TaskSet) → Each set empty_shape (λ vs. IsQuietLine set (shape_text set empty_shape vs))
empty_told set lo l hi h core c task t = record {
  event = RefuseEmpty core task lo hi;
  is_line = record { told = (c, t, l, h); text_is = four (field (codes "refuse empty ") lo) (field (codes " ") hi) (field (codes " core ") core) (field (codes " task ") task) line_feed; one_line = refl };
  quiet = λ n. refl;
}

abbrev records_shape : Shape
records_shape = pair_shape (codes "refuse records ")

records_told : (set : TaskSet) → Each set records_shape (λ vs. IsQuietLine set (shape_text set records_shape vs))
records_told set pending p spawns s core c task t = record {
  event = RefuseRecords core task pending spawns;
  is_line = record { told = (c, t, p, s); text_is = four (field (codes "refuse records ") pending) (field (codes " ") spawns) (field (codes " core ") core) (field (codes " task ") task) line_feed; one_line = refl };
  quiet = λ n. refl;
}

slots_told : (set : TaskSet) → Each set slots_shape (λ vs. IsQuietLine set (shape_text set slots_shape vs))
slots_told set object o core c task t = record {
  event = RefuseSlots core task object;
  is_line = record { told = (c, t, o); text_is = three (codes "refuse slots " ++ (object_at set object).name) (field (codes " core ") core) (field (codes " task ") task) line_feed; one_line = refl };
  quiet = λ n. refl;
}

boot_told : (set : TaskSet) → Each set boot_shape (λ vs. IsQuietLine set (shape_text set boot_shape vs))
boot_told set boots b = record {
  event = Booted None boots;
  is_line = record { told = (tt, b); text_is = one (field (codes "boot ") boots) line_feed; one_line = refl };
  quiet = λ n. refl;
}

fail_told : (set : TaskSet) (text : List ℕ) → pointwise nat_eq text (codes "fail") ≡ true → IsQuietLine set text
fail_told set text e = subst (IsQuietLine set) (sym (same_text text (codes "fail") (sym e))) (record {
  event = Failed;
  is_line = record { told = tt; text_is = refl; one_line = refl };
  quiet = λ n. refl;
})

attempt_means : (set : TaskSet) (text : List ℕ) → is_attempt set text ≡ true → IsQuietLine set text
attempt_means set text e = elim (or_cases (fits set start_shape text) (fits set stale_shape text) e) [
  | inl h ↦ fit_means set start_shape (IsQuietLine set) (start_told set) text h
  | inr h ↦ fit_means set stale_shape (IsQuietLine set) (stale_told set) text h
]

refusal_means : (set : TaskSet) (text : List ℕ) → is_refusal set text ≡ true → IsQuietLine set text
refusal_means set text e = elim (or_cases (fits set empty_shape text || fits set slots_shape text) (fits set records_shape text) e) [
  | inl h ↦ elim (or_cases (fits set empty_shape text) (fits set slots_shape text) h) [
    | inl k ↦ fit_means set empty_shape (IsQuietLine set) (empty_told set) text k
    | inr k ↦ fit_means set slots_shape (IsQuietLine set) (slots_told set) text k
  ]
  | inr h ↦ fit_means set records_shape (IsQuietLine set) (records_told set) text h
]

power_means : (set : TaskSet) (text : List ℕ) → is_power set text ≡ true → IsQuietLine set text
power_means set text e = elim (or_cases (fits set boot_shape text) (pointwise nat_eq text (codes "fail")) e) [
  | inl h ↦ fit_means set boot_shape (IsQuietLine set) (boot_told set) text h
  | inr h ↦ fail_told set text h
]

pub quiet_means : (set : TaskSet) (text : List ℕ) → is_quiet set text ≡ true → IsQuietLine set text
quiet_means set text e = elim (or_cases (is_attempt set text || is_refusal set text) (is_power set text) e) [
  | inl h ↦ elim (or_cases (is_attempt set text) (is_refusal set text) h) [
    | inl k ↦ attempt_means set text k
    | inr k ↦ refusal_means set text k
  ]
  | inr h ↦ power_means set text h
]

-- ---- lines of finishes

pub record IsEntryLine (word text : List ℕ) (e : Entry) : Type 0 where
  pub told : IsToldEntry e
  pub text_is : entry_text word e ≡ text ++ line_feed

exit_told : (set : TaskSet) (word : List ℕ) → Each set (exit_shape word) (λ vs. IsEntryLine word (shape_text set (exit_shape word) vs) (exit_entry vs))
exit_told set word number n task t point p code c first f = record {
  told = record { number = n; task = t; point = p; first = f; outcome = c };
  text_is = five (field word number) (field (codes " task ") task) (field (codes " point ") point) (field (codes " exit ") code) (field (codes " first ") first) line_feed;
}

trap_told : (set : TaskSet) (word : List ℕ) → Each set (trap_shape word) (λ vs. IsEntryLine word (shape_text set (trap_shape word) vs) (trap_entry vs))
trap_told set word number n task t point p cause c first f = record {
  told = record { number = n; task = t; point = p; first = f; outcome = c };
  text_is = five (field word number) (field (codes " task ") task) (field (codes " point ") point) (codes " trap " ++ numbered_cause_word cause) (field (codes " first ") first) line_feed;
}

-- one of two readings gives it
pub either : {A : Type 0} (o p : Option A) (x : A) → option_or o p ≡ Some x → (o ≡ Some x) ⊎ (p ≡ Some x)
either None p x e = inr e
either (Some y) p x e = inl e

pub mapped : {A B P : Type 0} (f : A → B) (o : Option A) (y : B) → option_map f o ≡ Some y → ((x : A) → o ≡ Some x → f x ≡ y → P) → P
mapped f None y e k = absurd (none-some y e)
mapped f (Some x) y e k = k x refl (same_Some (f x) y e)

entry_means : (set : TaskSet) (word text : List ℕ) (e : Entry) → entry_in set word text ≡ Some e → IsEntryLine word text e
entry_means set word text e is = elim (either (option_map exit_entry (values_in set (exit_shape word) text)) (option_map trap_entry (values_in set (trap_shape word) text)) e is) [
  | inl h ↦ mapped exit_entry (values_in set (exit_shape word) text) e h (λ values told same. subst (IsEntryLine word text) same (line_means set (exit_shape word) (λ vs t. IsEntryLine word t (exit_entry vs)) (exit_told set word) text values told))
  | inr h ↦ mapped trap_entry (values_in set (trap_shape word) text) e h (λ values told same. subst (IsEntryLine word text) same (line_means set (trap_shape word) (λ vs t. IsEntryLine word t (trap_entry vs)) (trap_told set word) text values told))
]

pub record IsFinishLine (set : TaskSet) (text : List ℕ) (e : Entry) : Type 0 where
  pub event : Line
  pub is_line : IsLineOf set text event
  pub lists : (n : ℕ) → listed_at n event ≡ record { line = n; entry = e } ∷ []

pub finish_means : (set : TaskSet) (text : List ℕ) (e : Entry) → finish_in set text ≡ Some e → IsFinishLine set text e
finish_means set text e is = elim (either (entry_in set (codes "finish ") text) (entry_in set (codes "found ") text) e is) [
  | inl h ↦ let so = entry_means set (codes "finish ") text e h in record { event = Finish e; is_line = record { told = so.told; text_is = so.text_is; one_line = refl }; lists = λ n. refl }
  | inr h ↦ let so = entry_means set (codes "found ") text e h in record { event = Found e; is_line = record { told = so.told; text_is = so.text_is; one_line = refl }; lists = λ n. refl }
]

-- Bytes have one audit.
use Rattle.std.proofs.Common.{◌≡◌, ℕ, ◌⊎◌, List, length, Option, Some, None, inl, inr, ap, sym, ◌∙◌, subst, refl}
use Rattle.std.specs.Prelude.{codes}
use Rattle.std.specs.Option.{option_or}
use Rattle.kernel_model.specs.Items.{Entry}
use Rattle.kernel_model.specs.Replay.{DeviceState}
use Rattle.kernel_model.specs.EntryReplay.{Good, Leaves, Replayed, Rerun, Wrong, replay}
use Rattle.set_model.specs.Sets.{TaskSet}
use Rattle.set_model.specs.Formatted.{formatted}
use Rattle.report_text.specs.Reports.{IsFirstBadLine, IsReport, IsReportOf}
use Rattle.report_text.specs.Reports as told
use Rattle.task_model.specs.Finals.{runs_of}
use Rattle.audit.specs.Differences.{DiffersBy, DiffersUnless, IsFirstDifference, entries_of, wrong_first, wrong_number, wrong_state}
use Rattle.answers.specs.declared.status.Status.{Status}
use Rattle.answers.specs.declared.status.Status.TheVariants.{Done, Usage, ReadFault, WriteFault, NoMemory, DeviceLost, Image, Small, Script, Packed, Differs, Report}
use Rattle.sim_run.specs.Replies.{Audits, Finds, Puts, Refuses, Reply}
use Rattle.sim_run.specs.Summary.{number_line}

-- what the replay of a listing leaves is one state
abbrev pub LeavesOne : Type 0
LeavesOne = (base : DeviceState) (entries : List Entry) (reruns : List Rerun) (f g : DeviceState) → Leaves base entries reruns f → Leaves base entries reruns g → f ≡ g

by_replay : LeavesOne → (set : TaskSet) (r : told.Report) (x : Replayed) (a b : Option ℕ) → DiffersBy set r x a → DiffersBy set r x b → a ≡ b
by_replay one set r (Wrong place) a b h k = h ∙ sym k
by_replay one set r (Good reruns) a b h k =
    let same : h.0 ≡ k.0 = one (formatted set) (entries_of r) reruns h.0 k.0 h.1 k.1 in
    h.2 ∙ ap (λ (f : DeviceState). option_or (wrong_first reruns 0 (formatted set).next r.listing) (wrong_state r f)) same ∙ sym k.2

by_number : LeavesOne → (set : TaskSet) (r : told.Report) (x : Option ℕ) (a b : Option ℕ) → DiffersUnless set r x a → DiffersUnless set r x b → a ≡ b
by_number one set r (Some wrong) a b h k = h ∙ sym k
by_number one set r None a b h k = by_replay one set r (replay (runs_of set) (formatted set) (entries_of r)) a b h k

pub one_difference : LeavesOne → (set : TaskSet) (r : told.Report) (a b : Option ℕ) → IsFirstDifference set r a → IsFirstDifference set r b → a ≡ b
one_difference one set r a b h k = by_number one set r (wrong_number (formatted set).number r.listing) a b h k

-- ---- the kinds of an audit

-- a report, with its first difference
record Judged (set : TaskSet) (bytes : List ℕ) (line : Option ℕ) : Type 0 where
  report : told.Report
  tells : IsReportOf set report bytes
  first : IsFirstDifference set report line

abbrev Agrees : TaskSet → List ℕ → Reply → Type 0
Agrees set bytes q = (j : Judged set bytes None) × (q ≡ Puts (number_line (codes "agreed ") (length j.report.listing)))

abbrev Differ : TaskSet → List ℕ → Reply → Type 0
Differ set bytes q = (line : ℕ) × Judged set bytes (Some line) × (q ≡ Refuses (Differs line))

abbrev IsBad : TaskSet → List ℕ → Reply → Type 0
IsBad set bytes q = (line : ℕ) × IsFirstBadLine set line bytes × (q ≡ Refuses (Report line))

abbrev Kinds : TaskSet → List ℕ → Reply → Type 0
Kinds set bytes q = Agrees set bytes q ⊎ (Differ set bytes q ⊎ IsBad set bytes q)

refused_kind : (set : TaskSet) (bytes : List ℕ) (status : Status) → Audits set bytes (Refuses status) → Kinds set bytes (Refuses status)
refused_kind set bytes (Differs line) h = inr (inl (line, record { report = h.0; tells = h.1; first = h.2 }, refl))
refused_kind set bytes (Report line) h = inr (inr (line, h, refl))
refused_kind set bytes Done h = absurd h
refused_kind set bytes Usage h = absurd h
refused_kind set bytes ReadFault h = absurd h
refused_kind set bytes WriteFault h = absurd h
refused_kind set bytes NoMemory h = absurd h
refused_kind set bytes DeviceLost h = absurd h
refused_kind set bytes (Small need len) h = absurd h
refused_kind set bytes (Image fault) h = absurd h
refused_kind set bytes (Script e) h = absurd h
refused_kind set bytes (Packed p) h = absurd h

kind : (set : TaskSet) (bytes : List ℕ) (q : Reply) → Audits set bytes q → Kinds set bytes q
kind set bytes (Puts text) h = inl (record { report = h.0; tells = h.1; first = h.2 }, ap (λ (t : List ℕ). Puts t) h.3)
kind set bytes (Refuses status) h = refused_kind set bytes status h
kind set bytes (Finds status) h = absurd h

-- ---- two audits

-- what is known of reports and their lines
pub record Laws (set : TaskSet) (bytes : List ℕ) : Type 0 where
  pub leaves : LeavesOne
  pub tells : (r s : told.Report) → IsReportOf set r bytes → IsReportOf set s bytes → r ≡ s
  pub one : (m n : ℕ) → IsFirstBadLine set m bytes → IsFirstBadLine set n bytes → m ≡ n
  pub none : (n : ℕ) → IsReport set bytes → IsFirstBadLine set n bytes → ⊥

module _ (set : TaskSet) (bytes : List ℕ) (laws : Laws set bytes) where
  same_line : (a b : Option ℕ) → Judged set bytes a → Judged set bytes b → a ≡ b
  same_line a b h k =
      let same : k.report ≡ h.report = laws.tells k.report h.report k.tells h.tells in
      one_difference laws.leaves set h.report a b h.first (subst (λ (r : told.Report). IsFirstDifference set r b) same k.first)

  never_bad : (a : Option ℕ) (n : ℕ) → Judged set bytes a → IsFirstBadLine set n bytes → ⊥
  never_bad a n h b = laws.none n (h.report, h.tells) b

  never_both : (line : ℕ) → Judged set bytes None → Judged set bytes (Some line) → ⊥
  never_both line h k = let e : None ≡ Some line = same_line None (Some line) h k in absurd (cc e)

  some_same : (m n : ℕ) → (let a : Option ℕ = Some m in a ≡ Some n) → m ≡ n
  some_same m n e = cc e

  same : (q r : Reply) → Kinds set bytes q → Kinds set bytes r → q ≡ r
  same q r (inl h) (inl k) =
      let e : h.0.report ≡ k.0.report = laws.tells h.0.report k.0.report h.0.tells k.0.tells in
      h.1 ∙ ap (λ (x : told.Report). Puts (number_line (codes "agreed ") (length x.listing))) e ∙ sym k.1
  same q r (inl h) (inr (inl k)) = absurd (never_both k.0 h.0 k.1)
  same q r (inl h) (inr (inr k)) = absurd (never_bad None k.0 h.0 k.1)
  same q r (inr (inl h)) (inl k) = absurd (never_both h.0 k.0 h.1)
  same q r (inr (inl h)) (inr (inl k)) = h.2 ∙ ap (λ (n : ℕ). Refuses (Differs n)) (some_same h.0 k.0 (same_line (Some h.0) (Some k.0) h.1 k.1)) ∙ sym k.2
  same q r (inr (inl h)) (inr (inr k)) = absurd (never_bad (Some h.0) k.0 h.1 k.1)
  same q r (inr (inr h)) (inl k) = absurd (never_bad None h.0 k.0 h.1)
  same q r (inr (inr h)) (inr (inl k)) = absurd (never_bad (Some k.0) h.0 k.1 h.1)
  same q r (inr (inr h)) (inr (inr k)) = h.2 ∙ ap (λ (n : ℕ). Refuses (Report n)) (laws.one h.0 k.0 h.1 k.1) ∙ sym k.2

  pub one_audit : (q r : Reply) → Audits set bytes q → Audits set bytes r → q ≡ r
  one_audit q r h k = same q r (kind set bytes q h) (kind set bytes r k)

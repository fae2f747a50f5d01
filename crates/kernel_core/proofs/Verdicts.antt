-- The verdict that the program reaches is that of the tables.
use Rattle.std.proofs.Common.{◌≡◌, ℕ, zero, suc, ◌+◌, ◌<◌, ◌≤◌, List, [], ◌∷◌, get_or, length, map, Option, Some, None, sym, ap, ap₂, ◌∙◌, subst, arith}
use Rattle.std.proofs.lemmas.List.{length-map}
use Rattle.rv_core.specs.State.{MachineState}
use Rattle.nv_base.specs.declared.limits.TheConstants.{MAX_CORES}
use Rattle.kernel_model.specs.Cores.{all_but}
use Rattle.kernel_model.specs.Effects.{Outcome}
use Rattle.slot_model.specs.Tabled as tabled
use Rattle.slot_model.specs.Tabled.{View, table_verdict, with_view}
use Rattle.set_model.specs.Sets.{ObjPart}
use Rattle.set_model.specs.Views.{outcome_of}
use Rattle.device_model.specs.Words.{Words}
use Rattle.shadow_index.specs.States.{index_of}
use Rattle.task_queue.specs.Queues.{Queued}
use Rattle.table_machine.specs.Tables.{Try, Tables, sizes_in}
use Rattle.table_machine.specs.Places.{run_by, seen_in}
use Rattle.ver_table.specs.Chains as own
use Rattle.validate.specs.Answers.{AreSizes, IsAnswer, IsVerdict, tables_in}
use Rattle.validate.specs.Views.{view_of}
use Rattle.validate.specs.declared.beside.View as beside
use Rattle.validate.specs.declared.verdict.Verdict.{Verdict}
use Rattle.core_seats.specs.declared.seat.Seat as seat
use Rattle.core_seats.specs.Others.{view_in, views_in}
use Rattle.core_seats.proofs.Beside.{seats_but, views_all}
use Rattle.kernel_core.specs.Commits.{setting_on}
use Rattle.kernel_core.specs.Deciding.{IsVerdictOn, seen_by, verdict_at}
use Rattle.kernel_core.specs.Keeping.{Keeps}
use Rattle.kernel_core.specs.Turns.{held_at}
use Rattle.kernel_core.specs.declared.kernel.Kernel.{Kernel}
use Rattle.kernel_core.proofs.AtStage.{on}
use Rattle.kernel_core.proofs.Waiting.{IsReady, ended_at, same_item, same_try}

-- ---- few others

few_views : (seats : List seat.Seat) → length (views_in seats) ≤ length seats
few_views [] = omega arith
few_views (s ∷ seats) = at (view_in s) (few_views seats)
  where
    at : (v : Option View) → length (views_in seats) ≤ length seats → length (with_view v (views_in seats)) ≤ length (s ∷ seats)
    at None l = omega (arith, l)
    at (Some v) l = omega (arith, l)

one_less : {A : Type 0} → (xs : List A) (n : ℕ) → n < length xs → length (all_but n xs) + 1 ≡ length xs
one_less [] n l = absurd (omega (arith, l))
one_less (x ∷ xs) zero l = omega arith
one_less (x ∷ xs) (suc n) l = let m = one_less xs n (omega (arith, l)) in omega (arith, m)

pub few_others : (k : Kernel) (n : ℕ) (views : List beside.View) → IsReady k n → length k.seats.items ≤ MAX_CORES → map view_of views ≡ views_in (all_but n k.seats.items) → length views ≤ 7
few_others k n views g few e =
    let a = length-map views view_of in
    let b = few_views (all_but n k.seats.items) in
    let d = one_less k.seats.items n g.inside in
    let f = ap length e in
    omega (arith, a, b, d, f, few)

-- ---- what it looks at

slots_at : (chains : List own.Chain) (objects : List ObjPart) (o : ℕ) (d : own.Chain) (e : ObjPart) → map (λ (c : own.Chain). c.slots) chains ≡ map (λ (p : ObjPart). p.slots) objects → o < length chains → (get_or objects o e).slots ≡ (get_or chains o d).slots
slots_at [] objects o d e h l = absurd (omega (arith, l))
slots_at (c ∷ chains) [] o d e h l = absurd (cc h)
slots_at (c ∷ chains) (p ∷ objects) zero d e h l = sym (cc h)
slots_at (c ∷ chains) (p ∷ objects) (suc o) d e h l = slots_at chains objects o d e (cc h) (omega (arith, l))

pub are_sizes : (k : Kernel) (words : Words) (t : Tables MachineState) (n : ℕ) → Keeps k words t → AreSizes (seen_by k n) (sizes_in (setting_on k.set words))
are_sizes k words t n h = record {
  slots = λ o l. slots_at k.committed.versions k.set.objects o _ _ h.rooms.slots l;
  records = sym h.rooms.records;
}

-- what the tables look at, by their index and their chains
looked_at : (k : Kernel) (words : Words) (t : Tables MachineState) (n : ℕ) → Keeps k words t → IsReady k n → seen_in t.index t.chains ≡ tables_in (seen_by k n)
looked_at k words t n h g =
    let o = on k words t h g.power in
    let s = seen_by k n in
    ap₂ seen_in o.index o.chains
    ∙ ap (λ (q : Queued). tables_in (record s { queue = q })) (sym o.committed.queue)

pub verdict_is : (k : Kernel) (words : Words) (t : Tables MachineState) (n : ℕ) (a : Try MachineState) (o : Outcome) → Keeps k words t → IsReady k n
    → verdict_at k words t n a o ≡ table_verdict (sizes_in (setting_on k.set words)) (tables_in (seen_by k n)) (seen_by k n).others a.task a.interval (run_by a o)
verdict_is k words t n a o h g =
    let after = index_of k.committed.after in
    ap₂ (λ (x : tabled.Tables) (views : List View). table_verdict (sizes_in (setting_on k.set words)) x views a.task a.interval (run_by a o)) (looked_at k words t n h g) (views_all _ after _ (seats_but k.seats.items after t.seats n h.seats))

-- ---- the answer

pub is_verdict : (k : Kernel) (n : ℕ) (s : seat.Seat) (others : List View) (v : Verdict) → IsReady k n → s ≡ get_or k.seats.items n s → others ≡ views_in (all_but n k.seats.items) → IsAnswer (record (seen_by k n) { others = others }) s.attempt s.reads v → IsVerdictOn k n v
unfolding IsVerdictOn
is_verdict k n s others v g at views answer = λ words t h a outcome held.
    let e = ended_at k words t n h g in
    let same = same_try a e.of outcome (outcome_of e.outcome) (held_at t n) held e.held in
    let moved : IsAnswer (seen_by k n) g.seat.attempt g.seat.reads v =
    subst (λ (x : seat.Seat). IsAnswer (seen_by k n) x.attempt x.reads v) (same_item k.seats.items n s g.seat g.inside at g.seat_is)
    (subst (λ (vs : List View). IsAnswer (record (seen_by k n) { others = vs }) s.attempt s.reads v) views answer) in
    let told = moved e.outcome e.of (sizes_in (setting_on k.set words)) e.ready e.ended e.reads (are_sizes k words t n h) in
    subst (IsVerdict (seen_by k n) (sizes_in (setting_on k.set words)) v)
    (sym (verdict_is k words t n e.of (outcome_of e.outcome) h g) ∙ ap₂ (λ (b : Try MachineState) (p : Outcome). verdict_at k words t n b p) (sym same.0) (sym same.1)) told

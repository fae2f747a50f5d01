-- The kernel once a finish has joined.
use Rattle.std.proofs.Common.{◌≡◌, ℕ, ◌<◌, Bool, true, false, nat_eq, List, [], ◌∷◌, ◌++◌, length, map, set, get_or, refl, sym, ap, ap₂, ◌∙◌, subst, arith, get_or-set_other, get_or-set_same}
use Rattle.std.specs.Prelude.{vec_capacity}
use Rattle.std.specs.Global.{Vec}
use Rattle.std.specs.List.{AllByRecursion}
use Rattle.std.proofs.lemmas.Bool.{eqb-false, eqb-true}
use Rattle.std.proofs.lemmas.List.{length-map, length-set, map-append}
use Rattle.rv_core.specs.State.{MachineState}
use Rattle.nv_base.specs.declared.lines.Entry as base
use Rattle.nv_base.specs.declared.lines.Line.TheVariants as line
use Rattle.kernel_model.specs.Items.{Entry, FinishRecord, entry_of}
use Rattle.kernel_model.specs.Cores.{all_but}
use Rattle.kernel_model.specs.Turns as turns
use Rattle.set_model.specs.Views as told
use Rattle.device_model.specs.Words.{Words}
use Rattle.device_model.specs.IndexWords.{Index}
use Rattle.device_model.specs.Devices.{layout_on}
use Rattle.device_model.specs.Commits.{next_root}
use Rattle.shadow_index.specs.States.{index_of}
use Rattle.shadow_index.specs.Tells.{IsShift, device_of}
use Rattle.shadow_index.specs.declared.state.State.{State}
use Rattle.table_machine.specs.Tables.{Seat, Vacant, Runs, Copies, Waits, Saves, Tables}
use Rattle.table_machine.specs.Seats.{commit_of, held_in, seat_turn}
use Rattle.table_machine.specs.Events.{Answer, all_touched, cut_seat, joined, written_by}
use Rattle.recovery.specs.Images.{device_at}
use Rattle.vol_copy.specs.Tries.{IsFor}
use Rattle.commit_writer.specs.Courses.{Course, IsBegun, root_after}
use Rattle.committed_state.specs.Committed.{IsCommitted, IsFinishOf, chains_in}
use Rattle.committed_state.specs.declared.joining.Joining.{Joining}
use Rattle.committed_state.specs.declared.committed.Committed.{Committed}
use Rattle.core_seats.specs.declared.seat.Seat as own
use Rattle.core_seats.specs.Holding.{AreSeats, StandsFor}
use Rattle.kernel_core.specs.Commits.{IsCommitting, course_by, is_written_by, setting_on, words_by}
use Rattle.kernel_core.specs.Cuts.{AreCut}
use Rattle.kernel_core.specs.Keeping.{IsOn, IsPowered}
use Rattle.kernel_core.specs.Turns.{CoreTurns, IsAnswered, IsSavingAt, answer_at, held_at}
use Rattle.kernel_core.specs.declared.kernel.Kernel.{Kernel}
use Rattle.kernel_core.specs.declared.kernel.Power.{Power}
use Rattle.kernel_core.specs.declared.kernel.Power.TheVariants as power
use Rattle.kernel_core.proofs.Turned.{SavesNone, seats_length}
use Rattle.kernel_core.proofs.Cutting.{attempts_cut, cut_at, seats_cut}
use Rattle.kernel_core.proofs.Represented.{one_saves}
use Rattle.kernel_core.proofs.Writing.{on_saving, saving_stands}
use Rattle.kernel_core.proofs.MayJoin.{IsJoiningOf, finish_is, whole_held}

-- the tables behind it
abbrev pub joined_tables : Kernel → Words → Tables MachineState → ℕ → FinishRecord → Index → Tables MachineState
joined_tables k words t n i after = record (joined (setting_on k.set words) (Saves i after 0) t) { seats = set (map (cut_seat i) t.seats) n Vacant }

-- its answer
join_answer : (k : Kernel) (words : Words) (t : Tables MachineState) (n : ℕ) (i : FinishRecord) (after : Index) → held_at t n ≡ Saves i after 0 → answer_at k words t n ≡ record { tables = joined_tables k words t n i after; writes = []; line = turns.Finish (entry_of i) }
join_answer k words t n i after e =
    let x = setting_on k.set words in
    let by : Seat MachineState → Answer MachineState = λ c. (let u = joined x c t in let turn = seat_turn x t words (all_but n t.seats) n c in record { tables = record u { seats = set u.seats n turn.seat }; writes = written_by x t c; line = turn.line }) in
    ap by e

-- what is cut saves what it saved
cut_saves : (i : FinishRecord) (seat : Seat MachineState) → SavesNone seat → SavesNone (cut_seat i seat)
cut_saves i Vacant none j after left e = cc e
cut_saves i (Runs a) none j after left e = cc e
cut_saves i (Copies a slot) none j after left e = cc e
cut_saves i (Waits a outcome) none j after left e = cc e
cut_saves i (Saves f x m) none j after left e = none f x m refl

-- no finish commits behind it
none_commits : (t : Tables MachineState) (n : ℕ) (i : FinishRecord) → n < length t.seats → ((m : ℕ) → (m ≡ n → ⊥) → SavesNone (held_at t m)) → (m : ℕ) → SavesNone (get_or (set (map (cut_seat i) t.seats) n Vacant) m Vacant)
none_commits t n i l none m = at (nat_eq m n) refl
  where
    at : (b : Bool) → nat_eq m n ≡ b → SavesNone (get_or (set (map (cut_seat i) t.seats) n Vacant) m Vacant)
    at true b j after left e =
        let here : m ≡ n = eqb-true m n b in
        let vacant : get_or (set (map (cut_seat i) t.seats) n Vacant) m Vacant ≡ Vacant = ap (λ (p : ℕ). get_or (set (map (cut_seat i) t.seats) n Vacant) p Vacant) here ∙ get_or-set_same (map (cut_seat i) t.seats) n Vacant Vacant (let p = length-map t.seats (cut_seat i) in omega (arith, l, p)) in
        cc (sym vacant ∙ e)
    at false b j after left e =
        let ne = eqb-false m n b in
        cut_saves i (held_at t m) (none m ne) j after left (sym (get_or-set_other (map (cut_seat i) t.seats) n m Vacant Vacant ne ∙ cut_at i t.seats m) ∙ e)

-- the root of the tables is the writer's
root_is : (k : Kernel) (words : Words) (t : Tables MachineState) (seat : own.Seat) (i : FinishRecord) (after : Index) → IsOn k words t → (c : IsCommitting k.set words k.committed k.writer seat t i after 0) → next_root (layout_on (device_at k.set words)) k.set (held_in t) (commit_of i after) ≡ root_after (course_by (device_at k.set words) c.held i after)
root_is k words t seat i after o c = ap₂ (λ (x : Index) (root : ℕ). next_root (layout_on (device_at k.set words)) k.set (record { index = x; objects = []; boots = 0; root = root }) (commit_of i after)) (o.index ∙ sym c.index) (o.root ∙ sym c.root)

-- ---- the kernel

-- the kernel behind it
abbrev pub joined_on : Kernel → Committed → Vec own.Seat → Vec base.Entry → Kernel
joined_on k new seats listing = record k { committed = new; seats = seats; listing = listing }

-- what the calls leave of the kernel
pub record HasJoined (k : Kernel) (n : ℕ) (g : IsSavingAt k n true) (j : Joining) (root : ℕ) (new : Committed) (cut : List own.Seat) (cleared : own.Seat)
    (seats : Vec own.Seat) (listing : Vec base.Entry) : Type 0 where
  pub joining : IsJoiningOf k n g j
  pub rooted : (x : Course) (is_written : ℕ → Bool) (words : ℕ → List ℕ) → IsBegun x is_written words k.writer.job → root ≡ root_after x
  pub committed : IsCommitted k.set new
  pub chains : (i : FinishRecord) → IsFinishOf j i → chains_in new ≡ all_touched i k.committed.after.slots.items 0 (chains_in k.committed)
  pub state_is : new.state ≡ record k.committed.after { root = root }
  pub after_is : new.after ≡ k.committed.state
  pub are_cut : AreCut j.point.0 j.written (length k.seats.items) k.seats.items cut
  pub seats_are : seats.items ≡ set cut n cleared
  pub kept : (s : own.Seat) → s ≡ get_or cut n s → IsFor k.set s.attempt → IsFor k.set cleared.attempt
  pub vacant : (after : Index) → StandsFor cleared after Vacant
  pub entries : listing.items ≡ k.listing.items ++ g.saving.entry ∷ []
  pub capacity : vec_capacity listing ≡ vec_capacity k.listing

-- while power is on
joined_are_on : (k : Kernel) (words : Words) (t : Tables MachineState) (n : ℕ) (g : IsSavingAt k n true) (j : Joining) (root : ℕ) (new : Committed) (cut : List own.Seat) (cleared : own.Seat) (seats : Vec own.Seat) (listing : Vec base.Entry) (i : FinishRecord)
    → HasJoined k n g j root new cut cleared seats listing → IsOn k words t → IsCommitting k.set words k.committed k.writer g.seat t i (index_of k.committed.after) 0 → IsFinishOf j i → n < length t.seats → ((m : ℕ) → (m ≡ n → ⊥) → SavesNone (held_at t m))
    → IsOn (joined_on k new seats listing) words (joined_tables k words t n i (index_of k.committed.after))
joined_are_on k words t n g j root new cut cleared seats listing i q o c f l none = record {
  power = o.power;
  boots = o.boots ∙ sym c.rest.boots ∙ sym (ap (λ (s : State). s.boots) q.state_is);
  index = sym (ap index_of q.state_is);
  root = root_is k words t g.seat i (index_of k.committed.after) o c ∙ sym (q.rooted (course_by (device_at k.set words) c.held i (index_of k.committed.after)) (is_written_by g.seat) (words_by g.seat) c.begun) ∙ sym (ap (λ (s : State). s.root) q.state_is);
  chains = ap (all_touched i k.committed.after.slots.items 0) o.chains ∙ sym (q.chains i f);
  committed = q.committed;
  shift = subst (IsShift k.set) (sym shift) o.shift;
  device = ap (device_of k.set) shift ∙ o.device;
  commits = λ m x y after left number e. absurd (none_commits t n i l none m y after left e);
}
  where
    shift : new.state.shift ≡ k.committed.state.shift
    shift = ap (λ (s : State). s.shift) q.state_is ∙ c.rest.shift

powered : (k : Kernel) (words : Words) (t : Tables MachineState) (p : Power) → p ≡ power.On → IsOn k words t → IsPowered k words t p
powered k words t power.On e o = o
powered k words t (power.Boot b) e o = absurd (cc e)

pub joins : (k : Kernel) (n : ℕ) (g : IsSavingAt k n true) (j : Joining) (root : ℕ) (new : Committed) (cut : List own.Seat) (cleared : own.Seat) (seats : Vec own.Seat) (listing : Vec base.Entry) → HasJoined k n g j root new cut cleared seats listing
    → (words : Words) → CoreTurns k n (joined_on k new seats listing) words words (line.Finish g.saving.entry)
unfolding CoreTurns
joins k n g j root new cut cleared seats listing q words = λ t h l.
    let s = saving_stands k words t n true h g in
    let i = s.finish in
    let after = index_of k.committed.after in
    let held = whole_held k words t n h g in
    let f = finish_is k words t n h g j q.joining in
    let o = on_saving k words t n true h g in
    let c = o.commits n g.seat i after 0 (g.inside, g.seat_is) held in
    let same = seats_length k.seats.items after t.seats h.seats in
    let inside : n < length t.seats = let b = g.inside in omega (arith, b, same) in
    let none : (m : ℕ) → (m ≡ n → ⊥) → SavesNone (held_at t m) = λ m ne y x left e. ne (one_saves k words t l o.power n m i y after x 0 left held e) in
    let size : length seats.items ≡ length k.seats.items = ap length q.seats_are ∙ length-set cut n cleared ∙ q.are_cut.number in
    let on = joined_are_on k words t n g j root new cut cleared seats listing i q o c f inside none in
    subst (λ (a : Answer MachineState). IsAnswered (joined_on k new seats listing) words a (line.Finish g.saving.entry)) (sym (join_answer k words t n i after held))
    (record {
      keeps = record {
        limits = h.limits;
        cores = size ∙ h.cores;
        few = let d = h.few in omega (arith, size, d);
        attempts = subst (λ (xs : List own.Seat). AllByRecursion (λ (x : own.Seat). IsFor k.set x.attempt) xs) (sym q.seats_are) (attempts_cut k.set j.point.0 j.written k.seats.items cut n cleared q.are_cut h.attempts q.kept g.inside);
        own = h.own;
        layout = h.layout;
        rooms = q.committed.rooms;
        writer = h.writer;
        seats = subst (λ (xs : List own.Seat). AreSeats xs (index_of new.after) (set (map (cut_seat i) t.seats) n Vacant)) (sym q.seats_are)
            (seats_cut j.point.0 j.written k.seats.items cut t.seats after (index_of new.after) n cleared i q.are_cut f.point f.writes h.seats g.inside none (q.vacant (index_of new.after)));
        owed = h.owed;
        entries = ap₂ (λ (xs : List Entry) (e : Entry). xs ++ e ∷ []) h.entries s.entry ∙ sym (map-append told.entry_of k.listing.items (g.saving.entry ∷ [])) ∙ sym (ap (map told.entry_of) q.entries);
        capacity = let d = h.capacity in let e = q.capacity in omega (arith, d, e);
        powered = powered (joined_on k new seats listing) words (joined_tables k words t n i after) k.power g.power on;
      };
      tells = ap turns.Finish (sym s.entry);
    })

-- One core's seat changes, and all else stays.
use Rattle.std.proofs.Common.{◌≡◌, ℕ, zero, suc, ◌<◌, Bool, true, false, nat_eq, List, [], ◌∷◌, length, set, get_or, refl, sym, ap, ◌∙◌, subst, arith, get_or-set_other, get_or-set_same}
use Rattle.std.specs.Vec.{with_item}
use Rattle.std.proofs.lemmas.Bool.{eqb-false, eqb-true}
use Rattle.std.specs.List.{AllByRecursion}
use Rattle.std.proofs.lemmas.List.{length-set}
use Rattle.rv_core.specs.State.{MachineState}
use Rattle.kernel_model.specs.Items.{FinishRecord}
use Rattle.device_model.specs.Words.{Words}
use Rattle.device_model.specs.IndexWords.{Index}
use Rattle.shadow_index.specs.States.{index_of}
use Rattle.table_machine.specs.Tables.{Seat, Vacant, Saves, Tables}
use Rattle.vol_copy.specs.Tries.{IsFor}
use Rattle.core_seats.specs.declared.seat.Seat as own
use Rattle.core_seats.specs.Holding.{AreSeats, StandsFor}
use Rattle.kernel_core.specs.Commits.{IsCommitting}
use Rattle.kernel_core.specs.Keeping.{IsOn, IsPowered, IsSeatNumber, Keeps}
use Rattle.kernel_core.specs.declared.kernel.Kernel.{Kernel}
use Rattle.kernel_core.specs.declared.kernel.Power.{Power}
use Rattle.kernel_core.specs.declared.kernel.Power.TheVariants as power

-- ---- seats as lists

pub seats_length : (seats : List own.Seat) (after : Index) (held : List (Seat MachineState)) → AreSeats seats after held → length held ≡ length seats
seats_length [] after [] h = refl
seats_length [] after (t ∷ held) h = absurd h
seats_length (s ∷ seats) after [] h = absurd h
seats_length (s ∷ seats) after (t ∷ held) h = ap suc (seats_length seats after held h.1)

pub seat_at : (seats : List own.Seat) (after : Index) (held : List (Seat MachineState)) (n : ℕ) (s : own.Seat) → AreSeats seats after held → n < length seats → s ≡ get_or seats n s → StandsFor s after (get_or held n Vacant)
seat_at [] after held n s h l e = absurd (omega (arith, l))
seat_at (x ∷ seats) after [] n s h l e = absurd h
seat_at (x ∷ seats) after (t ∷ held) zero s h l e = subst (λ y. StandsFor y after t) (sym e) h.0
seat_at (x ∷ seats) after (t ∷ held) (suc n) s h l e = seat_at seats after held n s h.1 (omega (arith, l)) e

pub seats_set : (seats : List own.Seat) (after : Index) (held : List (Seat MachineState)) (n : ℕ) (s : own.Seat) (t : Seat MachineState) → AreSeats seats after held → StandsFor s after t → AreSeats (set seats n s) after (set held n t)
seats_set [] after [] n s t h g = tt
seats_set [] after (u ∷ held) n s t h g = absurd h
seats_set (x ∷ seats) after [] n s t h g = absurd h
seats_set (x ∷ seats) after (u ∷ held) zero s t h g = (g, h.1)
seats_set (x ∷ seats) after (u ∷ held) (suc n) s t h g = (h.0, seats_set seats after held n s t h.1 g)

pub all_set : {A : Type 0} → (P : A → Type 0) (xs : List A) (n : ℕ) (x : A) → AllByRecursion P xs → P x → AllByRecursion P (set xs n x)
all_set P [] n x h p = tt
all_set P (y ∷ xs) zero x h p = (p, h.1)
all_set P (y ∷ xs) (suc n) x h p = (h.0, all_set P xs n x h.1 p)

pub all_at : {A : Type 0} → (P : A → Type 0) (xs : List A) (n : ℕ) (x : A) → AllByRecursion P xs → n < length xs → x ≡ get_or xs n x → P x
all_at P [] n x h l e = absurd (omega (arith, l))
all_at P (y ∷ xs) zero x h l e = subst P (sym e) h.0
all_at P (y ∷ xs) (suc n) x h l e = all_at P xs n x h.1 (omega (arith, l)) e

-- ---- the kernel

-- a seat that saves no finish
abbrev pub SavesNone : Seat MachineState → Type 0
SavesNone seat = (i : FinishRecord) (after : Index) (left : ℕ) → seat ≡ Saves i after left → ⊥

-- the kernel with this seat for core n
abbrev pub seated : Kernel → ℕ → own.Seat → Kernel
seated k n s = record k { seats = with_item k.seats n s }

abbrev pub seated_tables : Tables MachineState → ℕ → Seat MachineState → Tables MachineState
seated_tables t n seat = record t { seats = set t.seats n seat }

-- another core's number names the same seat
other_seat : (seats : List own.Seat) (n m : ℕ) (s x : own.Seat) → (m ≡ n → ⊥) → IsSeatNumber (set seats n s) m x → IsSeatNumber seats m x
other_seat seats n m s x ne h = (omega (arith, h.0, length-set seats n s), h.1 ∙ get_or-set_other seats n m s x ne)

-- power is on, and the new seat saves no finish
still_on : (k : Kernel) (words : Words) (t : Tables MachineState) (n : ℕ) (s : own.Seat) (seat : Seat MachineState) → length t.seats ≡ length k.seats.items → IsOn k words t → SavesNone seat → IsOn (seated k n s) words (seated_tables t n seat)
still_on k words t n s seat same h none = record {
  power = h.power;
  boots = h.boots;
  index = h.index;
  root = h.root;
  chains = h.chains;
  committed = h.committed;
  shift = h.shift;
  device = h.device;
  commits = λ m x i after left number e. at m x i after left number e (nat_eq m n) refl;
}
  where
    at : (m : ℕ) (x : own.Seat) (i : FinishRecord) (after : Index) (left : ℕ) → IsSeatNumber (set k.seats.items n s) m x → get_or (set t.seats n seat) m Vacant ≡ Saves i after left → (b : Bool) → nat_eq m n ≡ b → IsCommitting k.set words k.committed k.writer x (seated_tables t n seat) i after left
    at m x i after left number e true b = let f = eqb-true m n b in absurd (none i after left (sym (get_or-set_same t.seats n seat Vacant (let l = number.0 in let g = length-set k.seats.items n s in omega (arith, l, g, f, same))) ∙ ap (λ (j : ℕ). get_or (set t.seats n seat) j Vacant) (sym f) ∙ e))
    at m x i after left number e false b =
        let f = eqb-false m n b in
        let g = h.commits m x i after left (other_seat k.seats.items n m s x f number) (sym (get_or-set_other t.seats n m seat Vacant f) ∙ e) in
        record { held = g.held; index = g.index; root = g.root; after_is = g.after_is; rest = g.rest; begun = g.begun; writes = g.writes; writing = g.writing }

powered : (k : Kernel) (words : Words) (t : Tables MachineState) (n : ℕ) (s : own.Seat) (seat : Seat MachineState) (p : Power) → length t.seats ≡ length k.seats.items → p ≡ power.On → IsPowered k words t p → SavesNone seat → IsPowered (seated k n s) words (seated_tables t n seat) p
powered k words t n s seat power.On same e h none = still_on k words t n s seat same h none
powered k words t n s seat (power.Boot b) same e h none = absurd (cc e)

pub turned : (k : Kernel) (words : Words) (t : Tables MachineState) (n : ℕ) (s : own.Seat) (seat : Seat MachineState) → Keeps k words t → k.power ≡ power.On → IsFor k.set s.attempt → StandsFor s (index_of k.committed.after) seat → SavesNone seat → Keeps (seated k n s) words (seated_tables t n seat)
turned k words t n s seat h on kept stands none = record {
  limits = h.limits;
  cores = length-set k.seats.items n s ∙ h.cores;
  few = let l = length-set k.seats.items n s in omega (arith, l, h.few);
  attempts = all_set (λ (x : own.Seat). IsFor k.set x.attempt) k.seats.items n s h.attempts kept;
  own = h.own;
  layout = h.layout;
  rooms = h.rooms;
  writer = h.writer;
  seats = seats_set k.seats.items (index_of k.committed.after) t.seats n s seat h.seats stands;
  owed = h.owed;
  entries = h.entries;
  capacity = h.capacity;
  powered = powered k words t n s seat k.power (seats_length k.seats.items (index_of k.committed.after) t.seats h.seats) on h.powered none;
}

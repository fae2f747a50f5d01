-- A write to the device changes no table, but how many writes are left.
use Rattle.std.proofs.Common.{◌≡◌, ℕ, zero, suc, get_or, length, ap, refl, sym, subst}
use Rattle.kernel_model.specs.Events.{Power, On, CoreStep}
use Rattle.device_model.specs.Words.{Words}
use Rattle.table_machine.specs.Tables.{Copies, Runs, Saves, Seat, Setting, Tables, Vacant, Waits}
use Rattle.table_machine.specs.Events.{table_step, written_by}
use Rattle.table_machine.specs.Simulates.{IsWrite}
use Rattle.table_machine.proofs.OnPower.{answer_at}

pub write_leaves : {M : Type 0} → (x : Setting M) (words : Words) (t : Tables M) (n : ℕ) → t.power ≡ On → length (table_step x words t (CoreStep n)).writes ≡ 1 → IsWrite x words t n
write_leaves {M} x words t n on e = by t.power (sym on) e
  where
    Of : Power → Type 0
    Of p = let u : Tables M = record t { power = p } in length (table_step x words u (CoreStep n)).writes ≡ 1 → IsWrite x words u n

    go : (c : Seat M) → get_or t.seats n Vacant ≡ c → (let u : Tables M = record t { power = On } in length (written_by x u c) ≡ 1 → IsWrite x words u n)
    go Vacant at e = absurd (cc e)
    go (Runs a) at e = absurd (cc e)
    go (Copies a slot) at e = absurd (cc e)
    go (Waits a outcome) at e = absurd (cc e)
    go (Saves i after zero) at e = absurd (cc e)
    go (Saves i after (suc left)) at e =
        record { item = i; after = after; left = left; seat = at; tables = ap (λ c. (let u : Tables M = record t { power = On } in (answer_at x words u n c).tables)) at }

    by : (p : Power) → On ≡ p → Of p
    by p e = subst Of e (go (get_or t.seats n Vacant) refl)

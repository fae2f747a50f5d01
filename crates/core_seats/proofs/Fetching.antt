-- An outside read: its version, or none.
use Rattle.std.proofs.Common.{◌≡◌, ℕ, List, [], ◌∷◌, Some, None, refl, sym, ap, ◌∙◌, subst}
use Rattle.rv_core.specs.State.{MachineState}
use Rattle.nv_base.specs.declared.ids.ObjId.{ObjId}
use Rattle.device_model.specs.IndexWords.{Index}
use Rattle.interval.specs.Ranges.{range_of}
use Rattle.interval.specs.declared.version.Version.{Version}
use Rattle.slot_model.specs.Tabled.{Place, with_place}
use Rattle.table_machine.specs.Tables.{Try, Copies, Vacant}
use Rattle.ver_table.specs.Chains.{Chain}
use Rattle.validate.specs.Reading.{IsAdmitted, IsStale, IsVersionAt}
use Rattle.validate.specs.declared.reading.Stale.{Stale}
use Rattle.vol_copy.specs.Stages.{IsFetching}
use Rattle.vol_copy.specs.Tries.{IsSeatAt}
use Rattle.vol_copy.specs.Turns.{OpensRead}
use Rattle.vol_copy.specs.declared.attempt.Stage.TheVariants as stage
use Rattle.core_seats.specs.Holding.{StandsFor, StandsForBy}
use Rattle.core_seats.specs.Steps.{Fetches, Leaves}
use Rattle.core_seats.specs.declared.seat.Seat.{Seat}
use Rattle.core_seats.proofs.Standing.{leaves_still}

-- none is left for the try
pub is_stale : (chains : List Chain) (old new : Seat) (o : ObjId) (s : Stale) → IsStale chains old.reads o.0 s → ((after : Index) → StandsFor new after Vacant) → Fetches chains old o new (Some s)
unfolding Fetches
is_stale chains old new o s h vacant = λ after n t m tried interval.
    subst (Leaves new after n t.task (Some s)) (sym (h.fetched n t m interval)) (record { stands = vacant after; tells = refl })

-- one is read: the try copies it
pub is_read : (chains : List Chain) (old new : Seat) (o : ObjId) (v : Version) → IsAdmitted chains old.reads o.0 v → new.saving ≡ None → IsFetching o old.attempt.stage → ((p : Place) → IsVersionAt chains v p → range_of new.reads ≡ with_place p (range_of old.reads)) → new.slot ≡ v.slot → OpensRead old.attempt v.object new.attempt
    → Fetches chains old o new None
unfolding Fetches OpensRead
is_read chains old new o v h e f interval slot opens = λ after n t m tried range.
    let object : v.object ≡ o = ap (λ (k : ℕ). let x : ObjId = record { 0 = k } in x) h.named in
    let stage_is : new.attempt.stage ≡ stage.Copying v.object f.0 0 = opens.0 f.0 (f.1 ∙ ap (λ (x : ObjId). stage.Fetching x f.0) (sym object)) in
    let p = h.place in
    let u : Try MachineState = record t { interval = with_place p t.interval; copies = record { object = o.0; words = [] } ∷ t.copies; state = m } in
    let copying = opens.1 (record t { state = m }) (with_place p t.interval) tried in
    let named = subst (λ (k : ℕ). let w : Try MachineState = record t { interval = with_place p t.interval; copies = record { object = k; words = [] } ∷ t.copies; state = m } in IsSeatAt new.attempt (range_of new.reads) (stage.Copying v.object f.0 0) (Copies w p.slot)) h.named
    (_, p.slot, copying, ap (with_place p) range ∙ sym (interval p h.version), refl) in
    let stands = subst (λ s. IsSeatAt new.attempt (range_of new.reads) s (Copies u p.slot)) (sym stage_is) named in
    leaves_still new after n t.task (Copies u p.slot) _ (h.fetched n t m range) (subst (λ w. StandsForBy new after w (Copies u p.slot)) (sym e) (stands, sym h.version.slot ∙ sym slot))

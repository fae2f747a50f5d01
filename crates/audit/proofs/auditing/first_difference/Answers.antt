use Rattle.std.proofs.Common.{◌+◌, sym, ap, ◌∙◌, subst, length, map, arith, ℕ}
use Rattle.report_text.specs.Reports.{Report}
use Rattle.report.specs.Views.{listed_of}
use Rattle.nv_base.specs.declared.lines.Entry as base
use Rattle.nv_base.specs.declared.lines.Outcome.TheVariants.{Exit}
use Rattle.task_model.specs.Finals.{AreSpawnsOf}
use Rattle.audit.proofs.Differing.{AreEntries, first_differs, met, none_of, objects_left, place_inside, replay_differs, state_differs}
use Rattle.audit.proofs.auditing.first_difference.Goals as goal

abbrev zero_listed : ℕ × base.Entry
zero_listed = (0, record { number = record { 0 = 0 }; task = record { 0 = 0 }; point = record { 0 = 0 }; first = record { 0 = 0 }; outcome = Exit 0 })

pub bounds-listing-place : goal.bounds-listing-place
bounds-listing-place c =
    let told : AreEntries c.args.report.now c.as_slice-listing.result.now c.as_slice.result.now = record {
      listing = ap (λ (x : Report). x.listing) (sym c.report.view_is) ∙ ap (map listed_of) (sym c.as_slice-listing.ensures);
      entries = c.as_slice.ensures.value ∙ c.in_ok-entries.ensures;
    } in
    place_inside c.wrong_entry_has_no_finish.ensures c.next_place_is_new.ensures c.args.set.now c.args.report.now c.as_slice-listing.result.now c.as_slice.result.now c.in-Wrong.place told
    (met c.args.set.now c.as_slice.result.now c.in_ok-place.field-0 _ c.in_ok-place.ensures c.in-Wrong.is)

pub returns-in-Wrong : goal.returns-in-Wrong
returns-in-Wrong c =
    let told : AreEntries c.args.report.now c.as_slice-listing.result.now c.as_slice.result.now = record {
      listing = ap (λ (x : Report). x.listing) (sym c.report.view_is) ∙ ap (map listed_of) (sym c.as_slice-listing.ensures);
      entries = c.as_slice.ensures.value ∙ c.in_ok-entries.ensures;
    } in
    let numbers = sym c.wrong_number.ensures ∙ none_of c.wrong_number.result c.in_default.not-Some in
    let answer = met c.args.set.now c.as_slice.result.now c.in_ok-place.field-0 _ c.in_ok-place.ensures c.in-Wrong.is in
    replay_differs c.args.set.now c.args.report.now c.as_slice-listing.result.now c.as_slice.result.now c.in-Wrong.place zero_listed told numbers answer
    (place_inside c.wrong_entry_has_no_finish.ensures c.next_place_is_new.ensures c.args.set.now c.args.report.now c.as_slice-listing.result.now c.as_slice.result.now c.in-Wrong.place told answer)

pub returns-in-Some-wrong_first : goal.returns-in-Some-wrong_first
returns-in-Some-wrong_first c =
    let told : AreEntries c.args.report.now c.as_slice-listing.result.now c.as_slice.result.now = record {
      listing = ap (λ (x : Report). x.listing) (sym c.report.view_is) ∙ ap (map listed_of) (sym c.as_slice-listing.ensures);
      entries = c.as_slice.ensures.value ∙ c.in_ok-entries.ensures;
    } in
    let numbers = sym c.wrong_number.ensures ∙ none_of c.wrong_number.result c.in_default.not-Some in
    let answer = met c.args.set.now c.as_slice.result.now c.in_ok-place.field-0 _ c.in_ok-place.ensures c.in-Good.is in
    first_differs c.args.set.now c.args.report.now c.as_slice-listing.result.now c.as_slice.result.now c.in-Good.end c.in-Good.spawned (length c.tasks.result.now + 1) c.in-Some-wrong_first.line told numbers answer (omega (arith, c.tasks.ensures.number))
    (λ reruns h. sym c.in-Some-wrong_first.is ∙ c.wrong_first.ensures reruns (subst (λ xs. AreSpawnsOf xs reruns) (sym c.as_slice-in-Good.ensures) h))

pub wrong_state-requires-clause-number : goal.wrong_state-requires-clause-number
wrong_state-requires-clause-number c =
    let answer = met c.args.set.now c.as_slice.result.now c.in_ok-place.field-0 _ c.in_ok-place.ensures c.in-Good.is in
    c.requires.shape.number ∙ sym (objects_left c.args.set.now c.as_slice.result.now c.in-Good.end c.in-Good.spawned answer)

pub returns : goal.returns
returns c =
    let told : AreEntries c.args.report.now c.as_slice-listing.result.now c.as_slice.result.now = record {
      listing = ap (λ (x : Report). x.listing) (sym c.report.view_is) ∙ ap (map listed_of) (sym c.as_slice-listing.ensures);
      entries = c.as_slice.ensures.value ∙ c.in_ok-entries.ensures;
    } in
    let numbers = sym c.wrong_number.ensures ∙ none_of c.wrong_number.result c.in_default.not-Some in
    let answer = met c.args.set.now c.as_slice.result.now c.in_ok-place.field-0 _ c.in_ok-place.ensures c.in-Good.is in
    state_differs c.args.set.now c.args.report.now c.as_slice-listing.result.now c.as_slice.result.now c.in-Good.end c.in-Good.spawned (length c.tasks.result.now + 1) c.wrong_state.result told numbers answer (omega (arith, c.tasks.ensures.number))
    (λ reruns h. sym (c.wrong_first.ensures reruns (subst (λ xs. AreSpawnsOf xs reruns) (sym c.as_slice-in-Good.ensures) h)) ∙ none_of c.wrong_first.result c.in_default-wrong_first.not-Some) c.wrong_state.ensures

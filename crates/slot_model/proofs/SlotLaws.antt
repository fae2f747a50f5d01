-- What stands in single slots: what is copied, what is chosen, what a commit may write.
use Rattle.std.proofs.Common.{◌≡◌, ℕ, ◌<◌, Bool, true, false, cond, ltb, ◌||◌, List, [], ◌∷◌, get_or, Option, Some, None, refl, sym, ap, ◌∙◌, subst}
use Rattle.std.specs.Prelude.{is_none}
use Rattle.std.specs.List.{AllByRecursion}
use Rattle.std.proofs.lemmas.Bool.{eq-eqb, or_right}
use Rattle.kernel_model.specs.Sizes.{Sizes}
use Rattle.kernel_model.specs.Items.{FinishRecord}
use Rattle.kernel_model.specs.Replay.{DeviceState}
use Rattle.kernel_model.specs.Versions.{Read, Version, chosen, older, read_words, versions, words_in}
use Rattle.kernel_model.specs.Intervals.{Interval, is_empty}
use Rattle.kernel_model.specs.Cores.{Attempt, Copying, Core, Idle}
use Rattle.kernel_model.specs.Room.{interval_of, is_copied_by, is_needed, is_newest_read, meet}
use Rattle.kernel_model.specs.History.{IsNumbered}
use Rattle.kernel_model.specs.Chain.{IsChain, IsPart, floored}
use Rattle.kernel_model.proofs.ForCallers.{at_needed, chosen-met, chosen_from_chain, part_of_chain, writer_found}
use Rattle.slot_model.specs.Slots.{Image}
use Rattle.slot_model.specs.Kept.{Held, Kept, chosen_held, is_there, must_stand, versions_in}
use Rattle.slot_model.specs.Standing.{AreStanding, IsChosen, IsPinned, IsServed, Stands}
use Rattle.slot_model.proofs.Chains.{HasNewest, both_held, each_held, newest_must}
use Rattle.slot_model.proofs.Nexts.{newest_of, seen_of}
use Rattle.slot_model.proofs.Pins.{chosen_there}
use Rattle.slot_model.proofs.Uniques.{IsFound, there_found, versions_fall}

-- the version that a core copies stands in the slot that it copies from
pub copied_stands : {M : Type 0} → (sizes : Sizes) (base : DeviceState) (floor : ℕ) (history : List FinishRecord) (cores : List (Core M)) (kept : Kept) (image : Image) → IsNumbered base history → Stands sizes base floor history cores kept image →
    (n : ℕ) (a : Attempt M) (copied : ℕ) (r : Read) (reads : List Read) → get_or cores n Idle ≡ Copying a copied → a.reads ≡ r ∷ reads → r.object < sizes.objects → (kept.pins n < sizes.slots r.object) × (image r.object (kept.pins n) ≡ read_words base history r)
copied_stands {M} sizes base floor history cores kept image num s n a copied r reads at e l = (subst (λ k. k < sizes.slots r.object) f.slot_is f.here.0, subst (λ k. image r.object k ≡ f.held.version.words) f.slot_is (f.here.1 must) ∙ ap (λ (v : Version). v.words) f.version_is ∙ sym (ap words_in f.found_is))
  where
    stand : AreStanding (sizes.slots r.object) floor (is_needed base history r.object cores) (image r.object) (versions base r.object history) (kept.chains r.object)
    stand = s.objects r.object l

    pin : is_there (kept.pins n) r.writer (kept.chains r.object) ≡ true
    pin = let p : IsPinned kept.chains (kept.pins n) a.reads = subst (IsServed sizes base history cores kept image n) at (s.served n) in subst (IsPinned kept.chains (kept.pins n)) e p

    P : Held → Type 0
    P h = (h.slot < sizes.slots r.object) × (must_stand (is_needed base history r.object cores) h ≡ true → image r.object h.slot ≡ h.version.words)

    f : IsFound floor (kept.pins n) r.writer P (versions base r.object history)
    f =
        there_found floor (kept.pins n) r.writer (is_needed base history r.object cores) P (versions base r.object history) (versions_fall None base r.object history num) (kept.chains r.object)
        (part_of_chain floor (is_needed base history r.object cores) (versions_in (kept.chains r.object)) (versions base r.object history) stand.chained) pin
        (both_held (λ h. h.slot < sizes.slots r.object) (λ h. must_stand (is_needed base history r.object cores) h ≡ true → image r.object h.slot ≡ h.version.words) P (λ h p q. (p, q)) (kept.chains r.object) stand.places stand.words)

    read : is_newest_read r.object f.held.version a.reads ≡ true
    read =
        let w : r.writer ≡ f.held.version.writer = sym (writer_found r.writer (versions base r.object history) f.version f.found_is) ∙ sym (ap (λ (v : Version). v.writer) f.version_is) in
        rw (e, eq-eqb r.object r.object refl, eq-eqb r.writer f.held.version.writer w) refl

    must : must_stand (is_needed base history r.object cores) f.held ≡ true
    must = or_right (is_none f.held.version.end) (is_needed base history r.object cores f.held.version) (at_needed base history r.object f.held.version cores n (rw (at, read) refl))

-- what is chosen of those held is one of them
chosen_one : (P : Held → Type 0) (hi : Option ℕ) (chain : List Held) (h : Held) → AllByRecursion P chain → chosen_held hi chain ≡ Some h → P h
chosen_one P hi [] h p e = absurd (cc e)
chosen_one P None (x ∷ hs) h p e = let same : x ≡ h = cc e in subst P same p.0
chosen_one P (Some hi) (x ∷ hs) h p e = go (chosen_one P (Some hi) hs h p.1) (ltb x.version.begin hi) e
  where
    go : (chosen_held (Some hi) hs ≡ Some h → P h) → (b : Bool) → cond b (Some x) (chosen_held (Some hi) hs) ≡ Some h → P h
    go rest true e = let same : x ≡ h = cc e in subst P same p.0
    go rest false e = rest e

-- the version that an attempt chooses is held, and stands in its slot
pub chosen_stands : {M : Type 0} → (sizes : Sizes) (base : DeviceState) (floor : ℕ) (history : List FinishRecord) (cores : List (Core M)) (kept : Kept) (image : Image) → IsNumbered base history → Stands sizes base floor history cores kept image →
    (n o : ℕ) (i : Interval) (v : Version) → interval_of base history (get_or cores n Idle) ≡ Some i → is_empty i ≡ false → o < sizes.objects → chosen i.hi (versions base o history) ≡ Some v → IsChosen sizes floor o i.hi (kept.chains o) image v
chosen_stands {M} sizes base floor history cores kept image num s n o i v at ne l e = record {
  held = h.0;
  chosen_is = h.1;
  version_is = h.2;
  place = chosen_one (λ h. h.slot < sizes.slots o) i.hi (kept.chains o) h.0 stand.places h.1;
  words = (chosen_one P i.hi (kept.chains o) h.0 (both_held (λ h. h.version.writer ≡ v.writer → must_stand needed h ≡ true) (λ h. must_stand needed h ≡ true → image o h.slot ≡ h.version.words) P (λ h p q w. q (p w)) (kept.chains o) must stand.words) h.1)
      (ap (λ (x : Version). x.writer) h.2) ∙ ap (λ (x : Version). x.words) h.2;
}
  where
    needed : Version → Bool
    needed = is_needed base history o cores

    stand : AreStanding (sizes.slots o) floor needed (image o) (versions base o history) (kept.chains o)
    stand = s.objects o l

    P : Held → Type 0
    P h = h.version.writer ≡ v.writer → image o h.slot ≡ h.version.words

    h : (h : Held) × (chosen_held i.hi (kept.chains o) ≡ Some h) × (h.version ≡ floored floor v) × (is_there h.slot v.writer (kept.chains o) ≡ true)
    h = chosen_there i.hi (kept.chains o) (floored floor v) (chosen_from_chain base floor o history cores n i at ne (s.starts n i at) (versions_in (kept.chains o)) stand.chained v e)

    meets_needed : (u : Version) → meet u i ≡ true → needed u ≡ true
    meets_needed u m = at_needed base history o u cores n (or_right (is_copied_by o u (get_or cores n Idle)) _ (rw at m))

    go : (vs : List Version) (chain : List Held) → HasNewest vs → AllByRecursion (λ u. u.writer ≡ v.writer → meet u i ≡ true) (older vs) → IsChain floor needed (versions_in chain) vs → AllByRecursion (λ h. h.version.writer ≡ v.writer → must_stand needed h ≡ true) chain
    go vs [] new m c = tt
    go [] (g ∷ hs) new m c = absurd (cc c)
    go (x ∷ vs) (g ∷ hs) new m c =
        let rest : versions_in hs ≡ c.0 = cc c.1 in (
          λ w. newest_must floor needed needed g hs (x ∷ vs) new c,
          each_held floor needed (λ u. u.writer ≡ v.writer → meet u i ≡ true) (λ u. u.writer ≡ v.writer → (is_none u.end || needed u) ≡ true)
              (λ u f w. or_right (is_none u.end) (needed (floored floor u)) (seen_of base history floor o cores s.starts u ∙ meets_needed u (f w))) vs m hs (subst (λ p. IsPart floor needed p vs) (sym rest) c.2),
        )

    must : AllByRecursion (λ h. h.version.writer ≡ v.writer → must_stand needed h ≡ true) (kept.chains o)
    must = go (versions base o history) (kept.chains o) (newest_of base o history) (chosen-met i ne base o history num v e) stand.chained

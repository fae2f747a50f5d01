-- Two images with the same words in all slots stand for the same.
use Rattle.std.proofs.Common.{◌≡◌, ℕ, ◌-◌, ◌<◌, List, [], ◌∷◌, get_or, take, length, true, refl, sym, ap, ◌∙◌}
use Rattle.std.specs.List.{AllByRecursion}
use Rattle.kernel_model.specs.Sizes.{Sizes}
use Rattle.kernel_model.specs.Effects.{Write}
use Rattle.kernel_model.specs.Items.{FinishRecord}
use Rattle.kernel_model.specs.Replay.{DeviceState}
use Rattle.kernel_model.specs.Worlds.{World}
use Rattle.kernel_model.specs.Cores.{Committing, Copying, Core, Idle, Ready, Running}
use Rattle.kernel_model.specs.Room.{is_needed}
use Rattle.kernel_model.specs.Turns.{commit_writes}
use Rattle.kernel_model.specs.Versions.{versions}
use Rattle.kernel_model.specs.Events.{State}
use Rattle.kernel_model.specs.Fit.{IsWrite}
use Rattle.slot_model.specs.Slots.{AreSame, Image}
use Rattle.slot_model.specs.Kept.{Held, Kept, must_stand}
use Rattle.slot_model.specs.Store.{AreWritten}
use Rattle.slot_model.specs.Standing.{IsLawful, IsServed, IsSpare, StandsFor}
use Rattle.slot_model.proofs.Chains.{standing_words}
use Rattle.slot_model.proofs.EventLaws.{runs_of}

-- where each slot of the commit has the same words
same_written : {M : Type 0} → (sizes : Sizes) (base : DeviceState) (history : List FinishRecord) (cores : List (Core M)) (kept : Kept) (before after : Image) → AreSame sizes before after → (ws : List Write) (made : ℕ) → AllByRecursion (IsWrite sizes) ws →
    AllByRecursion (λ w. IsSpare (sizes.slots w.object) (is_needed base history w.object cores) (kept.chains w.object) (kept.plan w.object)) ws → AreWritten sizes kept.plan before made ws → AreWritten sizes kept.plan after made ws
same_written sizes base history cores kept before after e [] made r p k = tt
same_written sizes base history cores kept before after e (w ∷ ws) made r p k = (
  ap (take made) (sym (e w.object (kept.plan w.object) r.0.object p.0.place)) ∙ k.0,
  same_written sizes base history cores kept before after e ws (made - sizes.size w.object) r.1 p.1 k.1,
)

pub same_stands : {M : Type 0} → (world : World M) (floor : ℕ) (s : State M) (kept : Kept) (before after : Image) → IsLawful world s → AreSame world.sizes before after → StandsFor world.sizes world.base floor s kept before → StandsFor world.sizes world.base floor s kept after
same_stands {M} world floor s kept before after h e f = record {
  since = f.since;
  stands = record {
    starts = f.stands.starts;
    sized = λ o k l m. ap length (sym (e o k l m)) ∙ f.stands.sized o k l m;
    objects = λ o l. standing_words (world.sizes.slots o) floor (is_needed world.base s.history o s.cores) (before o) (after o) (versions world.base o s.history) (kept.chains o) (same o l (kept.chains o) (f.stands.objects o l).places) (f.stands.objects o l);
    served = λ n. served n (get_or s.cores n Idle) refl (f.stands.served n);
  };
}
  where
    same : (o : ℕ) → o < world.sizes.objects → (hs : List Held) → AllByRecursion (λ h. h.slot < world.sizes.slots o) hs → AllByRecursion (λ h. must_stand (is_needed world.base s.history o s.cores) h ≡ true → after o h.slot ≡ before o h.slot) hs
    same o l [] p = tt
    same o l (x ∷ hs) p = (λ g. sym (e o x.slot l p.0), same o l hs p.1)

    served : (n : ℕ) (c : Core M) → get_or s.cores n Idle ≡ c → IsServed world.sizes world.base s.history s.cores kept before n c → IsServed world.sizes world.base s.history s.cores kept after n c
    served n Idle at u = tt
    served n (Running a) at u = tt
    served n (Copying a copied) at u = u
    served n (Ready a outcome) at u = tt
    served n (Committing i left) at u = record { few = u.few; spare = u.spare; written = same_written world.sizes world.base s.history s.cores kept before after e i.run.writes (commit_writes world.sizes world.base s.history i - left) (runs_of world s h.set_up h.sound n i left at).writes u.spare u.written }

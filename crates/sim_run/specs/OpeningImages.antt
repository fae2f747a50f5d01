-- What each image of a format or of a migration holds. This project's own.
use Rattle.std.specs.Prelude.{◌≡◌, List, [], ◌∷◌, ◌++◌}
use Rattle.set_model.specs.Sets.{TaskSet}
use Rattle.device_model.specs.Words.{Change, Words}
use Rattle.device_model.specs.Decoding.{decode}
use Rattle.device_model.specs.Decoding as stored
use Rattle.device_model.specs.Devices.{HoldsOn, first_on}
use Rattle.recovery.specs.Images.{words_of}
use Rattle.kernel_core.specs.Opening.{durable_stored, opening_writes}
use Rattle.kernel_core.specs.declared.open.How.{How}
use Rattle.kernel_core.specs.declared.open.How.TheVariants.{Fresh, Again}
use Rattle.simulation.specs.Stores.{Store, words_in}
use Rattle.sim_run.specs.Origins.{device_for}

-- what stands on a device once these of the writes are made, and those are left: of a format the words at entry before its first write, no state until its last one, and then the first state; of a migration always the durable state at entry
abbrev pub StandsAmid : How → TaskSet → (words now : Words) → (made left : List Change) → Type 0
StandsAmid Fresh set words now [] left = now ≡ words
StandsAmid Fresh set words now (w ∷ made) (v ∷ left) = decode set now ≡ stored.Blank
StandsAmid Fresh set words now (w ∷ made) [] =
    HoldsOn (device_for set) (first_on (device_for set)) now
StandsAmid Again set words now made left =
    durable_stored (decode set now) ≡ durable_stored (decode set words)

-- wherever the log has the first writes of a format or of a migration, the words were these then
abbrev pub HasOpening : How → TaskSet → (old new : Store) → Type 0
HasOpening how set old new =
    (made left more : List Change) → opening_writes how set (words_in old) ≡ made ++ left
    → new.log ≡ old.log ++ (made ++ more)
    → StandsAmid how set (words_in old) (words_of (old.log ++ made) old.start) made left

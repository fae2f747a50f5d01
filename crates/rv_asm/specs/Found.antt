-- The labels that the code keeps, as a function from their names. This project's own.
use Rattle.std.specs.Prelude.{nat_eq}
use Rattle.std.specs.Cmp.Lexicographic.{pointwise}
use Rattle.indexmap.specs.IndexMap.{get_by}
use Rattle.rv_asm.specs.declared.labels.Labels.{Labels}
use Rattle.rv_asm.specs.Labels.{Found}

abbrev pub find_in : Labels → Found
find_in labels name = get_by (λ key. pointwise nat_eq name key.now) labels.spots

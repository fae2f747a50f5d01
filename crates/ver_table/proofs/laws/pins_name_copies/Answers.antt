use Rattle.std.proofs.Common.{refl}
use Rattle.ver_table.proofs.PinLaws.{pins_are}
use Rattle.ver_table.proofs.laws.pins_name_copies.Goals as goal

pub returns : goal.returns
returns g c = λ base floor o history needed x held cores pins n laid st p. record { intervals_are = refl; pins_are = pins_are base floor o history needed x held cores pins n laid st p }

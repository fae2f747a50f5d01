use Rattle.core_seats.proofs.Beside.{seats_but, views_all}
use Rattle.core_seats.proofs.laws.views_are_the_others.Goals as goal

pub returns : goal.returns
returns c = λ seats after held n h. views_all _ after _ (seats_but seats after held n h)

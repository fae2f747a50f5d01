use Rattle.headline.specs.Runs.{first_state, world_from}
use Rattle.headline.proofs.Following.{none_made, one_more_made}
use Rattle.headline.proofs.laws.images_follow_events.Goals as goal

pub returns-clause-none : goal.returns-clause-none
returns-clause-none c = none_made

pub returns-clause-more : goal.returns-clause-more
returns-clause-more c = λ o events start before log grown n e h at g d.
    let more = c.one_event_more.ensures (world_from o) (first_state o) events n e at in
    one_more_made o events start before log grown n e (λ m l. (c.writes_only_grow.ensures (world_from o) (first_state o) events m).0 n l) more.2 h g d

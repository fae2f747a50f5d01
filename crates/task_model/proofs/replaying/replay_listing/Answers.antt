use Rattle.std.proofs.Common.{refl, ap, ◌∙◌, map, take, drop, get_or, suc, arith}
use Rattle.set_model.specs.Views.{entry_of}
use Rattle.task_model.specs.Turns.{place_at}
use Rattle.task_model.specs.declared.turns.Turn.{Turn}
use Rattle.task_model.proofs.ReplayTurns.{entry_of_turn, ids_left, order_at, went_on, went_wrong}
use Rattle.task_model.proofs.replaying.replay_listing.Goals as goal

abbrev zero_turn : Turn
zero_turn = record { point = record { 0 = 0 }; number = record { 0 = 0 }; place = 0 }

pub turn-requires-clause-room : goal.turn-requires-clause-room
turn-requires-clause-room c =
    let h = c.loop-turn.invariant.has in
    let n = ids_left c.args.set.now (map entry_of c.args.listing.now) c.deref-turn-items.result.now c.loop-turn.turn-index h.0 c.loop-turn.replaying h.1 (omega arith) in
    omega (arith, n, c.loop-turn.invariant.start, c.requires, c.in_ok-order.ensures.many, c.deref-turn-items.ensures.value)

pub returns-then-not-branch : goal.returns-then-not-branch
returns-then-not-branch c =
    let entries = map entry_of c.args.listing.now in
    let ts = c.deref-turn-items.result.now in
    let i = c.loop-turn.turn-index in
    let value = c.deref-turn-items.ensures.value in
    let order = ap (map (place_at entries)) value ∙ c.in_ok-order.ensures.order in
    let h = c.loop-turn.invariant.has in
    let went =
    c.in_ok-turn.ensures.turn entries (map (place_at entries) (take i ts)) (map (place_at entries) (drop (suc i) ts)) (place_at entries (get_or ts i zero_turn)) h.0 (order_at entries ts i zero_turn (omega arith) order) refl
    (entry_of_turn c.args.listing.now ts c.in_ok-order.order.items i zero_turn _ value c.in_ok-order.ensures.turns (omega arith)) h.1 in
    went_wrong c.args.set.now entries ts i zero_turn c.turn.new.self c.in_ok-turn.field-0 (omega arith) order went c.if-not-branch.true

pub loop-turn-preserved : goal.loop-turn-preserved
loop-turn-preserved c =
    let entries = map entry_of c.args.listing.now in
    let ts = c.deref-turn-items.result.now in
    let i = c.loop-turn.turn-index in
    let value = c.deref-turn-items.ensures.value in
    let order = ap (map (place_at entries)) value ∙ c.in_ok-order.ensures.order in
    let h = c.loop-turn.invariant.has in
    let went =
    c.in_ok-turn.ensures.turn entries (map (place_at entries) (take i ts)) (map (place_at entries) (drop (suc i) ts)) (place_at entries (get_or ts i zero_turn)) h.0 (order_at entries ts i zero_turn (omega arith) order) refl
    (entry_of_turn c.args.listing.now ts c.in_ok-order.order.items i zero_turn _ value c.in_ok-order.ensures.turns (omega arith)) h.1 in
    record {
      has = went_on c.args.set.now entries ts i zero_turn c.turn.new.self c.in_ok-turn.field-0 (omega arith) went c.if-not-branch.false;
      places = c.in_ok-turn.ensures.places ∙ c.loop-turn.invariant.places;
      start = c.loop-turn.invariant.start;
    }

use Rattle.rtrb.specs.Ring.{known_items, received, sent}
use Rattle.sj_lane.proofs.RestLemmas.{fed_by}
use Rattle.sj_lane.proofs.columns.beside.Goals as goal

pub returns-clause-fed : goal.returns-clause-fed
returns-clause-fed c =
    let consumer = c.slots_beside.new.self in
    let producer = c.slots_beside.new.producer in
    fed_by c.args.lane.now.handed (received c.args.lane.now.consumer) (received consumer) (known_items consumer) (sent c.args.out.now.producer) (sent producer)
    c.slots_beside.ensures.looked.1 c.slots_beside.ensures.producer.1 c.slots_beside.ensures.fifo

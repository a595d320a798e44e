use Rattle.std.proofs.Common.{option_to_list}
use Rattle.pei_dispatch.specs.declared.queue.PeiQueue.{PeiQueue}
use Rattle.pei_dispatch.proofs.{Notes.noted_shows, Notes.noted_owes, Views.stands_so}
use Rattle.pei_dispatch.proofs.queue.PeiQueue.changed.Goals as goal

pub returns-clause-shows : goal.returns-clause-shows
returns-clause-shows c catalog has view shows event =
    let mid : PeiQueue = record { index = c.take_away.new.index; cursor = c.args.self.now.cursor; walked = c.args.self.now.walked } in
    let new : PeiQueue = record { index = c.put_in.new.index; cursor = c.args.self.now.cursor; walked = c.args.self.now.walked } in
    let first = c.take_away.ensures catalog has shows.of_catalog event.taken in
    let last = c.put_in.ensures catalog has (option_to_list c.args.gone) first.of_catalog event.there first.known in
    noted_shows catalog c.args.self.now mid new view has c.args.gone c.args.is_still_there c.args.there.now shows event first last

pub returns-clause-owed : goal.returns-clause-owed
returns-clause-owed c catalog m has queue event =
    let mid : PeiQueue = record { index = c.take_away.new.index; cursor = c.args.self.now.cursor; walked = c.args.self.now.walked } in
    let new : PeiQueue = record { index = c.put_in.new.index; cursor = c.args.self.now.cursor; walked = c.args.self.now.walked } in
    let first = c.take_away.ensures catalog has queue.shows.of_catalog event.taken in
    let last = c.put_in.ensures catalog has (option_to_list c.args.gone) first.of_catalog event.there first.known in
    noted_owes catalog m c.args.self.now mid new has c.args.gone c.args.there.now (c.asked_are_those_of_the_bound_in_pei.ensures catalog m c.args.self.now.index (stands_so catalog m c.args.self.now queue.shows)) first last

-- The worked lists of events, computed by the definitions.
use Rattle.std.proofs.Common.{◌≡◌, true, false, List, [], ◌∷◌, refl}
use Rattle.mp_core.specs.{declared.event.MpEvent.MpEvent, declared.op.Op.TheVariants.Add, declared.op.Op.TheVariants.Put}
use Rattle.mp_core.specs.declared.event.MpEvent.TheVariants.{All, This, Enable, Switch, Who, Turn}
use Rattle.mp_core.specs.{declared.reply.MpReply.TheVariants.Word, declared.reply.MpReply.TheVariants.Number, Past.replies, Past.schedule}
use Rattle.mp_core.specs.declared.reply.MpWord.TheVariants.{Success, DeviceError, NotStarted, NotReady, NotFound, InvalidParameter, Unsupported}
use Rattle.mp_core.specs.Schedule.{busy_after, cells_after, records_after}
use Rattle.mp_core.specs.OneAfterAnother.{cells_of, one_after_another, records_of}

-- three processors and one cell: a start of all, turns, and one of a busy AP; the others when all are disabled
abbrev all_and_this : List MpEvent
all_and_this = All 0 (Add 0 5 ∷ Put 7 ∷ []) ∷ Turn 2 ∷ This 0 1 (Put 1 ∷ []) ∷ Turn 1 ∷ Turn 1 ∷ Turn 2
    ∷ All 1 (Put 1 ∷ []) ∷ Who 2 ∷ Enable 0 1 false ∷ Enable 0 2 false ∷ All 0 (Put 1 ∷ []) ∷ []

all_and_this_replies : replies 3 all_and_this ≡ Word Success ∷ Word NotReady ∷ Word DeviceError ∷ Number 2 ∷ Word Success ∷ Word Success ∷ Word NotStarted ∷ []
all_and_this_replies = refl

all_and_this_cells : cells_after 1 (schedule 3 all_and_this) ≡ 10 ∷ []
all_and_this_cells = refl

all_and_this_records : records_after 3 (schedule 3 all_and_this) ≡ [] ∷ (7 ∷ []) ∷ (7 ∷ []) ∷ []
all_and_this_records = refl

all_and_this_busy : busy_after 3 (schedule 3 all_and_this) ≡ false ∷ false ∷ false ∷ []
all_and_this_busy = refl

all_and_this_in_order : cells_of 1 (one_after_another (schedule 3 all_and_this)) ≡ 10 ∷ []
all_and_this_in_order = refl

all_and_this_in_order_records : records_of 3 (one_after_another (schedule 3 all_and_this)) ≡ [] ∷ (7 ∷ []) ∷ (7 ∷ []) ∷ []
all_and_this_in_order_records = refl

-- two processors and one cell: a switch, after which the old BSP is a disabled AP
abbrev switch : List MpEvent
switch = Switch 0 1 false ∷ All 1 (Put 1 ∷ []) ∷ Enable 1 0 true ∷ This 1 0 (Add 0 3 ∷ []) ∷ Enable 1 0 false ∷ Turn 0
    ∷ Enable 1 0 false ∷ This 1 9 (Put 1 ∷ []) ∷ []

switch_replies : replies 2 switch ≡ Word Success ∷ Word NotStarted ∷ Word Success ∷ Word Success ∷ Word Unsupported ∷ Word Success ∷ Word NotFound ∷ []
switch_replies = refl

switch_cells : cells_after 1 (schedule 2 switch) ≡ 3 ∷ []
switch_cells = refl

switch_records : records_after 2 (schedule 2 switch) ≡ [] ∷ [] ∷ []
switch_records = refl

switch_busy : busy_after 2 (schedule 2 switch) ≡ false ∷ false ∷ []
switch_busy = refl

-- three processors: neither the BSP nor a disabled AP is started, and the BSP is not disabled
abbrev refused_starts : List MpEvent
refused_starts = This 0 0 (Put 1 ∷ []) ∷ Enable 0 0 false ∷ This 0 1 (Put 2 ∷ []) ∷ Turn 1 ∷ Enable 0 2 false ∷ This 0 2 (Put 3 ∷ []) ∷ Turn 2
    ∷ Enable 0 2 true ∷ This 0 2 (Put 4 ∷ []) ∷ Turn 2 ∷ []

refused_starts_replies : replies 3 refused_starts
    ≡ Word InvalidParameter ∷ Word InvalidParameter ∷ Word Success ∷ Word Success ∷ Word InvalidParameter ∷ Word Success ∷ Word Success ∷ []
refused_starts_replies = refl

refused_starts_records : records_after 3 (schedule 3 refused_starts) ≡ [] ∷ (2 ∷ []) ∷ (4 ∷ []) ∷ []
refused_starts_records = refl

-- three processors: no start of all while one of two enabled APs is busy, of which the other is not started either
abbrev one_is_busy : List MpEvent
one_is_busy = This 0 1 (Put 1 ∷ []) ∷ All 0 (Put 2 ∷ []) ∷ Turn 2 ∷ Turn 1 ∷ All 0 (Put 3 ∷ []) ∷ Turn 1 ∷ Turn 2 ∷ []

one_is_busy_replies : replies 3 one_is_busy ≡ Word Success ∷ Word NotReady ∷ Word Success ∷ []
one_is_busy_replies = refl

one_is_busy_records : records_after 3 (schedule 3 one_is_busy) ≡ [] ∷ (1 ∷ 3 ∷ []) ∷ (3 ∷ []) ∷ []
one_is_busy_records = refl

-- three processors: no switch of the BSP to itself, to a disabled AP or to a busy one; the old BSP stays enabled where it is told to
abbrev refused_switches : List MpEvent
refused_switches = Switch 0 0 true ∷ Enable 0 2 false ∷ Switch 0 2 true ∷ This 0 1 (Put 1 ∷ []) ∷ Switch 0 1 true ∷ Turn 1 ∷ Switch 0 1 true
    ∷ This 1 0 (Put 2 ∷ []) ∷ Turn 0 ∷ This 0 1 (Put 3 ∷ []) ∷ []

refused_switches_replies : replies 3 refused_switches
    ≡ Word InvalidParameter ∷ Word Success ∷ Word InvalidParameter ∷ Word Success ∷ Word NotReady ∷ Word Success ∷ Word Success ∷ Word DeviceError ∷ []
refused_switches_replies = refl

refused_switches_records : records_after 3 (schedule 3 refused_switches) ≡ (2 ∷ []) ∷ (1 ∷ []) ∷ [] ∷ []
refused_switches_records = refl

-- The turns of a processor that is busy, and of one that is not.
use Rattle.std.proofs.Common.{◌≡◌, ℕ, ◌+◌, ◌%◌, ◌^◌, ◌<◌, [], ◌∷◌, ◌++◌, map, length, take, drop, get_or, set, sym, refl, ap, subst, ◌∙◌, Some, None, append-nil, flat_map}
use Rattle.std.proofs.lemmas.List.{length-map}
use Rattle.pi_base.specs.Lists.{Each, numbers}
use Rattle.mp_core.specs.declared.event.MpEvent.TheVariants as event
use Rattle.mp_core.specs.{declared.machine.Machine.Machine, declared.op.Op.Op}
use Rattle.mp_core.specs.{declared.op.Op.TheVariants.Add, declared.op.Op.TheVariants.Put, declared.processor.Processor.Processor}
use Rattle.mp_core.specs.{Calls.IsOp, Fair.AreOrderly, Machine.IsMachine, Machine.IsProcessor, Past.Past, Past.after, Processor.Does}
use Rattle.mp_core.specs.Schedule.{done, undone, ops_of, puts, put, adds}
use Rattle.mp_core.proofs.Standing.{turn_stands, cells_add, cells_same, sum_one, length-numbers}
use Rattle.mp_core.proofs.Turned.{sum_of}

-- the operations that are left, when one was taken off
left : (cells : ℕ) (past : Past) (on : ℕ) (x y : Processor) (op : Op) → IsProcessor cells past on x → x.rest.now ≡ op ∷ y.rest.now → ops_of on (undone past.steps) ≡ op ∷ y.rest.now
left cells past on x y op px e = sym px.rest ∙ e

pub add_stands : (processors cells : ℕ) (past : Past) (m now : Machine) (on : ℕ) (x y : Processor) (cell n : ℕ) → AreOrderly processors past.steps → IsMachine processors cells past m
    → on < processors → x ≡ get_or m.processors.items on x → Does x (Some (Add cell n)) y → now.bsp ≡ m.bsp → now.processors.items ≡ set m.processors.items on y
    → now.cells ≡ set m.cells cell ((get_or m.cells cell 0 + n) % 2 ^ 64) → IsMachine processors cells (after processors past (event.Turn on)) now
add_stands processors cells past m now on x y cell n o h lt is does bsp items sums =
    let px : IsProcessor cells past on x = subst (IsProcessor cells past on) (sym is) (h.each on x lt) in
    let rest : ops_of on (undone past.steps) ≡ Add cell n ∷ y.rest.now = left cells past on x y (Add cell n) px does.0 in
    let range : Each (IsOp cells) (Add cell n ∷ y.rest.now) = subst (Each (IsOp cells)) does.0 px.in_range in
    turn_stands processors cells past m now on y o h lt (record {
      bsp = bsp;
      items = items;
      enabled = does.1.0 ∙ px.enabled;
      rest = sym (ap (drop 1) rest);
      record_is = does.1.1 ∙ px.record_is ∙ sym (append-nil (puts on (done past.steps))) ∙ ap (λ ops. puts on (done past.steps) ++ flat_map put (take 1 ops)) (sym rest);
      in_range = range.1;
      cells_are = sums ∙ ap (λ xs. set xs cell ((get_or xs cell 0 + n) % 2 ^ 64)) h.cells_are ∙ cells_add cells cell n (done past.steps) range.0
          ∙ ap (λ ops. map (λ c. (adds c (done past.steps) + sum_of c (take 1 ops)) % 2 ^ 64) (numbers 0 cells)) (sym rest);
    })

pub put_stands : (processors cells : ℕ) (past : Past) (m now : Machine) (on : ℕ) (x y z : Processor) (n : ℕ) → AreOrderly processors past.steps → IsMachine processors cells past m
    → on < processors → x ≡ get_or m.processors.items on x → Does x (Some (Put n)) y → z.enabled ≡ y.enabled → z.rest.now ≡ y.rest.now → z.record ≡ y.record ++ n ∷ []
    → now.bsp ≡ m.bsp → now.processors.items ≡ set m.processors.items on z → now.cells ≡ m.cells → IsMachine processors cells (after processors past (event.Turn on)) now
put_stands processors cells past m now on x y z n o h lt is does enabled rest_is record_is bsp items cells_are =
    let px : IsProcessor cells past on x = subst (IsProcessor cells past on) (sym is) (h.each on x lt) in
    let rest : ops_of on (undone past.steps) ≡ Put n ∷ y.rest.now = left cells past on x y (Put n) px does.0 in
    let range : Each (IsOp cells) (Put n ∷ y.rest.now) = subst (Each (IsOp cells)) does.0 px.in_range in
    turn_stands processors cells past m now on z o h lt (record {
      bsp = bsp;
      items = items;
      enabled = enabled ∙ does.1.0 ∙ px.enabled;
      rest = rest_is ∙ sym (ap (drop 1) rest);
      record_is = record_is ∙ ap (λ r. r ++ n ∷ []) (does.1.1 ∙ px.record_is) ∙ ap (λ ops. puts on (done past.steps) ++ flat_map put (take 1 ops)) (sym rest);
      in_range = subst (Each (IsOp cells)) (sym rest_is) range.1;
      cells_are = cells_are ∙ h.cells_are ∙ cells_same cells (Put n ∷ []) (done past.steps) (λ c. sum_one c (Put n))
          ∙ ap (λ ops. map (λ c. (adds c (done past.steps) + sum_of c (take 1 ops)) % 2 ^ 64) (numbers 0 cells)) (sym rest);
    })

pub none_stands : (processors cells : ℕ) (past : Past) (m now : Machine) (on : ℕ) (x y : Processor) → AreOrderly processors past.steps → IsMachine processors cells past m
    → on < processors → x ≡ get_or m.processors.items on x → Does x None y → now.bsp ≡ m.bsp → now.processors.items ≡ set m.processors.items on y → now.cells ≡ m.cells
    → IsMachine processors cells (after processors past (event.Turn on)) now
none_stands processors cells past m now on x y o h lt is does bsp items cells_are =
    let px : IsProcessor cells past on x = subst (IsProcessor cells past on) (sym is) (h.each on x lt) in
    let rest : ops_of on (undone past.steps) ≡ [] = sym px.rest ∙ does.0 in
    turn_stands processors cells past m now on y o h lt (record {
      bsp = bsp;
      items = items;
      enabled = does.2.0 ∙ px.enabled;
      rest = does.1 ∙ sym (ap (drop 1) rest);
      record_is = does.2.1 ∙ px.record_is ∙ sym (append-nil (puts on (done past.steps))) ∙ ap (λ ops. puts on (done past.steps) ++ flat_map put (take 1 ops)) (sym rest);
      in_range = subst (Each (IsOp cells)) (sym does.1) tt;
      cells_are = cells_are ∙ h.cells_are ∙ cells_same cells [] (done past.steps) (λ c. refl)
          ∙ ap (λ ops. map (λ c. (adds c (done past.steps) + sum_of c (take 1 ops)) % 2 ^ 64) (numbers 0 cells)) (sym rest);
    })

-- a cell of an operation that is left is there
pub cell_below : (processors cells : ℕ) (past : Past) (m : Machine) (on : ℕ) (x y : Processor) (cell n : ℕ) → IsMachine processors cells past m → on < processors
    → x ≡ get_or m.processors.items on x → Does x (Some (Add cell n)) y → cell < length m.cells
cell_below processors cells past m on x y cell n h lt is does =
    let px : IsProcessor cells past on x = subst (IsProcessor cells past on) (sym is) (h.each on x lt) in
    let range : Each (IsOp cells) (Add cell n ∷ y.rest.now) = subst (Each (IsOp cells)) does.0 px.in_range in
    subst (λ k. cell < k) (sym (ap length h.cells_are ∙ length-map (numbers 0 cells) (λ c. adds c (done past.steps) % 2 ^ 64) ∙ length-numbers 0 cells)) range.0

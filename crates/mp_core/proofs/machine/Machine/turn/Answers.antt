use Rattle.std.proofs.Common.{◌≡◌, ◌<◌, ◌++◌, ◌∷◌, [], length, refl, subst, ◌∙◌, ap, arith, Some, Result, Ok, Err, get_or-set_same, set-set, OnOk}
use Rattle.mp_core.specs.{declared.processor.Processor.Processor, Processor.Does}
use Rattle.mp_core.proofs.Standing.{turn_past}
use Rattle.mp_core.proofs.Turning.{add_stands, put_stands, none_stands, cell_below}
use Rattle.mp_core.proofs.machine.Machine.turn.Goals as goal

on_ok : {T E : Type 0} (r : Result T E) (P Q : Type 0) → OnOk r P → (P → Q) → OnOk r Q
on_ok (Ok x) P Q h f = f h
on_ok (Err e) P Q h f = h

pub returns-then-at-len : goal.returns-then-at-len
returns-then-at-len c = λ processors cells past o h needs.
    let count = h.count in turn_past processors cells past c.args.self.now c.args.on o h (omega arith)

pub add-requires : goal.add-requires
add-requires c =
    let count = c.requires.3.count in
    cell_below c.requires.0 c.requires.1 c.requires.2 c.args.self.now c.args.on c.index_mut.result.now c.next_op.new.self c.in-Some-Add.cell c.in-Some-Add.n c.requires.3 (omega arith)
    c.index_mut.ensures.value (subst (λ op. Does c.index_mut.result.now (Some op) c.next_op.new.self) c.in-Some-Add.field-0-is c.in-Some-Add.ensures)

pub returns-in-Some-Add : goal.returns-in-Some-Add
returns-in-Some-Add c = λ processors cells past o h needs.
    let count = h.count in
    add_stands processors cells past c.args.self.now c.add.new.self c.args.on c.index_mut.result.now c.next_op.new.self c.in-Some-Add.cell c.in-Some-Add.n o h (omega arith)
    c.index_mut.ensures.value (subst (λ op. Does c.index_mut.result.now (Some op) c.next_op.new.self) c.in-Some-Add.field-0-is c.in-Some-Add.ensures)
    c.add.ensures.bsp c.add.ensures.processors c.add.ensures.sum

pub returns-in-Some-Put : goal.returns-in-Some-Put
returns-in-Some-Put c = on_ok c.push.result _ _ c.push.ensures.ok (λ pushed processors cells past o h needs.
    let m = c.args.self.now in
    let y = c.next_op.new.self in
    let x = c.index_mut-in-Some-Put.result.now in
    let count = h.count in
    let lt : c.args.on < length m.processors.items = omega arith in
    let below : c.args.on < processors = omega arith in
    let same : x ≡ y = c.index_mut-in-Some-Put.ensures.value ∙ get_or-set_same m.processors.items c.args.on y x lt in
    put_stands processors cells past m _ c.args.on c.index_mut.result.now y (record { enabled = x.enabled; rest = x.rest; «record» = c.push.new.self }) c.in-Some-Put.n o h below
    c.index_mut.ensures.value (subst (λ op. Does c.index_mut.result.now (Some op) y) c.in-Some-Put.field-0-is c.in-Some-Put.ensures)
    (ap (λ (p : Processor). p.enabled) same) (ap (λ (p : Processor). p.rest.now) same) (pushed ∙ ap (λ (p : Processor). p.«record» ++ c.in-Some-Put.n ∷ []) same)
    refl (set-set m.processors.items c.args.on y _) refl)

pub returns-in-None : goal.returns-in-None
returns-in-None c = λ processors cells past o h needs.
    let count = h.count in
    none_stands processors cells past c.args.self.now _ c.args.on c.index_mut.result.now c.next_op.new.self o h (omega arith)
    c.index_mut.ensures.value c.in-None.ensures refl refl refl

use Rattle.std.proofs.Common.{◌≡◌, ◌+◌, ℕ, List, ◌∷◌, Bool, true, false, Some, None, ap, refl, sym, ◌∙◌}
use Rattle.store_model.specs.StoreState.{Range, StoreState, end_place}
use Rattle.phys_mem.specs.{Region.Region, declared.memory.PhysMem.PhysMem}
use Rattle.phys_mem.specs.Regions.{regions, copied, Becomes}
use Rattle.heap_store.specs.{declared.course.Course.Course, Ready.IsMoving, Ready.course_of}
use Rattle.heap_store.proofs.Copying.{copying, is_copied, old_temp, new_regions}
use Rattle.heap_store.proofs.copy.copy_heap.Goals as goal

done_on : (outcome : List Region) (old new : PhysMem) (from to n : ℕ) (ok : Bool) → copied (regions old) from to n ≡ Some outcome → Becomes (copied (regions old) from to n) (regions old) ok (regions new) → (ok ≡ true) × (regions new ≡ outcome)
done_on outcome old new from to n true e h = let same : Some outcome ≡ Some (regions new) = sym e ∙ h in (refl, (let is : regions new ≡ outcome = cc in is))
done_on outcome old new from to n false e h = let none : Some outcome ≡ None = sym e ∙ h.0 in cc

told : (s : StoreState) (to : Range) (old : PhysMem) (course : Course) (n : ℕ) → IsMoving s to old → course ≡ course_of s to → n ≡ end_place s + 8 → copied (regions old) course.from course.to n ≡ Some (old_temp s ∷ new_regions s to)
told s to old course n m is e = ap (λ (x : Course). copied (regions old) x.from x.to n) is ∙ copying s to old n m e

pub unreachable-requires : goal.unreachable-requires
unreachable-requires c =
    let r = c.requires.due in
    let all = told r.0 r.1 c.args.memory.now c.args.course.now c.args.n r.2 r.3 r.4 in
    let end = done_on (old_temp r.0 ∷ new_regions r.0 r.1) c.args.memory.now c.copy.new.self c.args.course.now.from c.args.course.now.to c.args.n c.copy.result all c.copy.ensures in
    let t : c.copy.result ≡ true = end.0 in let f : c.copy.result ≡ false = c.if-not-copy.true in cc

pub returns : goal.returns
returns c s to m is e =
    let all = told s to c.args.memory.now c.args.course.now c.args.n m is e in
    let end = done_on (old_temp s ∷ new_regions s to) c.args.memory.now c.copy.new.self c.args.course.now.from c.args.course.now.to c.args.n c.copy.result all c.copy.ensures in
    is_copied s to c.args.memory.now c.copy.new.self c.unmap_temp.new.self m end.1 c.unmap_temp.ensures.unmapped

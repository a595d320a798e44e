-- What a call says of its own action it says of the action that was handed in.
use Rattle.std.proofs.Common.{◌≡◌, Bool, sym, subst, Result, Ok}
use Rattle.pi_base.specs.declared.memory.OutOfMemory.{OutOfMemory}
use Rattle.act_code.specs.declared.action.Action.{Action}
use Rattle.boot_model.specs.PeiMachine.{Frame}
use Rattle.store_model.specs.StoreState.{StoreState}
use Rattle.pei_core.specs.{declared.taken.Taken.Taken, Taken.Acts, Taken.Reads}

pub acts_of : (memory : Bool) (stood stands : StoreState → Type 0) (action own : Action) (frame : Frame) (result : Result Taken OutOfMemory)
    → action ≡ own → Acts memory stood stands own frame result → Acts memory stood stands action frame result
acts_of memory stood stands action own frame result e acts = subst (λ a. Acts memory stood stands a frame result) (sym e) acts

pub reads_of : (memory : Bool) (stands : StoreState → Type 0) (action own : Action) (frame : Frame) (taken : Taken)
    → action ≡ own → Reads stands own frame taken → Acts memory stands stands action frame (Ok taken)
reads_of memory stands action own frame taken e reads = acts_of memory stands stands action own frame (Ok taken) e (λ s h. (s, reads s h.0 h.1, h.0))

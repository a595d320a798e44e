-- The core after a call was answered.
use Rattle.std.proofs.Common.{◌≡◌, ℕ, List, [], ◌∷◌, ◌++◌, length, drop, ◌+◌, ◌-◌, arith, refl, sym, ap, ◌∙◌}
use Rattle.mod_catalog.specs.declared.catalogue.Catalog.{Catalog}
use Rattle.store_model.specs.{StoreState.StoreState, Service.Descriptor.offsets}
use Rattle.boot_model.specs.{declared.line.Line.Line, PeiMachine.Frame, PeiMachine.PeiMachine, PeiStep.report_lines, Reporting.reports}
use Rattle.boot_model.specs.declared.line.Line.TheVariants as L
use Rattle.phase_parts.specs.{Frames.answered, Writes.written}
use Rattle.pei_core.specs.{declared.taken.Reply.Reply, declared.core_state.Core.Core, CoreCall.last_volumes, Parts.reply_goal}
use Rattle.pei_core.specs.Standing.{IsCoreOf}
use Rattle.pei_core.proofs.PeimStates.{same_states}

abbrev pub call_line : Reply → Line
call_line reply = L.Call reply.name reply.status reply.extra

-- the volumes that the call reports
abbrev pub new_volumes : Catalog → StoreState → List ℕ → Reply → List ℕ
new_volumes catalog new reported reply = reports catalog new reported (offsets reply.installs.items)

abbrev pub call_lines : Catalog → PeiMachine → Reply → StoreState → List Line
call_lines catalog m reply new = call_line reply ∷ report_lines (new_volumes catalog new m.reported reply)

pub replied_core : (m : PeiMachine) (catalog : Catalog) (frame : Frame) (below : List Frame) (reply : Reply) (new : StoreState) (core : Core) (frames : List Frame) (reported : List ℕ)
    → IsCoreOf core m → frames ≡ answered frame (written frame.registers reply.writes) reply.status reply.sweep ∷ below → reported ≡ core.reported ++ new_volumes catalog new core.reported reply
    → IsCoreOf (record core { frames = frames; reported = reported }) (reply_goal catalog m frame below reply new).to
replied_core m catalog frame below reply new core frames reported of top more = record {
  frames = sym top;
  sweep = of.sweep;
  reported = ap (λ xs. xs ++ new_volumes catalog new xs reply) of.reported ∙ sym more;
  states = same_states m (reply_goal catalog m frame below reply new).to core.states refl refl refl of.states;
  actions = of.actions;
  starts = of.starts;
  running = of.running;
}

-- those that are shown stand behind those that were reported
dropped : (xs ys : List ℕ) → drop (length xs) (xs ++ ys) ≡ ys
dropped [] ys = refl
dropped (x ∷ xs) ys = dropped xs ys

last_dropped : (before all : List ℕ) (count : ℕ) → length all ≡ length before + count → last_volumes count all ≡ drop (length before) all
last_dropped before all count e = let left : length all - count ≡ length before = omega (arith, e) in ap (λ n. drop n all) left

pub shown_are : (m : PeiMachine) (catalog : Catalog) (reply : Reply) (new : StoreState) (core : Core) (reported shown : List ℕ) (count : ℕ) → IsCoreOf core m
    → reported ≡ core.reported ++ new_volumes catalog new core.reported reply → length reported ≡ length core.reported + count → shown ≡ last_volumes count reported → shown ≡ new_volumes catalog new m.reported reply
shown_are m catalog reply new core reported shown count of more counted is =
    is ∙ last_dropped core.reported reported count counted ∙ ap (drop (length core.reported)) more ∙ dropped core.reported (new_volumes catalog new core.reported reply) ∙ sym (ap (λ xs. new_volumes catalog new xs reply) of.reported)

-- so many came
pub came : (m later : PeiMachine) (core : Core) (reported : List ℕ) (count : ℕ) → IsCoreOf core m → later.reported ≡ reported → length reported ≡ length core.reported + count → length later.reported ≡ length m.reported + count
came m later core reported count of same counted = ap length same ∙ counted ∙ ap (λ xs. length xs + count) (sym of.reported)

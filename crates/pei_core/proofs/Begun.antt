-- The core behind the start of a module.
use Rattle.std.proofs.Common.{◌≡◌, ℕ, ◌<◌, ◌+◌, ◌-◌, ◌^◌, Bool, true, false, cond, List, [], ◌∷◌, ◌++◌, length, Option, Some, None, refl, sym, ap, ◌∙◌, subst, arith, is_some, min, option_map, unwrap_or, IsTrue, length-set}
use Rattle.pi_base.specs.declared.phase.Phase.TheVariants.{Pei}
use Rattle.act_code.specs.declared.action.Action.{Action}
use Rattle.mod_catalog.specs.{declared.catalogue.Catalog.Catalog, declared.catalogue.Part.Part, Parts.has_number, Parts.part_at}
use Rattle.mod_catalog.specs.WellFormed.{part_of}
use Rattle.boot_model.proofs.ListFacts.{within}
use Rattle.boot_model.specs.{declared.licence.Licence.Licence, declared.line.Line.Line, declared.peim_state.PeimState.PeimState}
use Rattle.boot_model.specs.declared.peim_state.PeimState.TheVariants.{NotDispatched, Dispatched, RegisteredForShadow, Done}
use Rattle.boot_model.specs.{Eligible.licence_at, PeiMachine.PeiMachine}
use Rattle.boot_model.specs.PeimState.{IsPeimState, awaits_start, state_at}
use Rattle.boot_model.specs.PeiStep.{start_line, start_lines, started, started_by, started_part}
use Rattle.phase_parts.specs.Found.{has_block}
use Rattle.pei_core.specs.{declared.core_state.Core.Core, Cores.state_behind, Cores.with_started, Standing.IsCoreFor, Standing.IsCoreOf}
use Rattle.boot_trace.specs.StartLines.{started_lines}
use Rattle.pei_core.proofs.PeimStates.{first_states, second_states}

-- one start more
counted : (starts n more : ℕ) → starts ≡ min n (2 ^ 32 - 1) → more ≡ n + 1 → min (starts + 1) (2 ^ 32 - 1) ≡ min more (2 ^ 32 - 1)
counted starts n more e f = grind (arith, e, f)

first_more : (b : Bool) (number : ℕ) (xs ys : List ℕ) → b ≡ false → length (cond b xs (number ∷ xs)) + length (cond b (number ∷ ys) ys) ≡ (length xs + length ys) + 1
first_more true number xs ys e = cc
first_more false number xs ys e = omega arith

second_more : (b : Bool) (number : ℕ) (xs ys : List ℕ) → b ≡ true → length (cond b xs (number ∷ xs)) + length (cond b (number ∷ ys) ys) ≡ (length xs + length ys) + 1
second_more true number xs ys e = omega arith
second_more false number xs ys e = cc

pub begun_core : (state : PeimState) (catalog : Catalog) (m : PeiMachine) (number : ℕ) (part : Part) (licence : Licence) (core : Core) → IsTrue (awaits_start state) → state_at core.states number ≡ state → number < length core.states → IsCoreOf core m
    → IsCoreOf (with_started state number part.script.blocks core) (started_by catalog m number part licence)
begun_core NotDispatched catalog m number part licence core waits e inside of =
    let later = started_by catalog m number part licence in
    let own : IsPeimState m number NotDispatched = subst (IsPeimState m number) e (of.states number) in
    record {
      frames = refl;
      sweep = refl;
      reported = of.reported;
      states = first_states m later core.states number inside of.states e (ap (λ b. cond b m.started (number ∷ m.started)) own.started) refl (ap (λ b. cond b (number ∷ m.again) m.again) own.started);
      actions = of.actions;
      starts = counted core.starts (length m.started + length m.again) _ of.starts (first_more (has_number m.started number) number m.started m.again own.started);
      running = of.running;
    }
begun_core Dispatched catalog m number part licence core waits e inside of = cc
begun_core RegisteredForShadow catalog m number part licence core waits e inside of =
    let later = started_by catalog m number part licence in
    let own : IsPeimState m number RegisteredForShadow = subst (IsPeimState m number) e (of.states number) in
    record {
      frames = refl;
      sweep = refl;
      reported = of.reported;
      states = second_states m later core.states number inside of.states e (ap (λ b. cond b m.started (number ∷ m.started)) own.started) refl (ap (λ b. cond b (number ∷ m.again) m.again) own.started);
      actions = of.actions;
      starts = counted core.starts (length m.started + length m.again) _ of.starts (second_more (has_number m.started number) number m.started m.again own.started);
      running = of.running;
    }
begun_core Done catalog m number part licence core waits e inside of = cc

-- the lines
lines_are : (line : Line) (blocks : List (List Action)) → start_lines line blocks ≡ started_lines line (has_block blocks)
lines_are line [] = refl
lines_are line (block ∷ blocks) = refl

-- the machine, by its part
abbrev blocks_in : Option Part → List (List Action)
blocks_in part = unwrap_or (option_map (λ part. part.script.blocks) part) []

pub record Begun (core : Core) (m later : PeiMachine) (lines : List Line) : Type 0 where
  pub fields : IsCoreOf core later
  pub store : later.store ≡ m.store
  pub printed : later.lines ≡ m.lines ++ lines

by_part : (o : Option Part) (catalog : Catalog) (m : PeiMachine) (number : ℕ) (licence : Licence) (state : PeimState) (core later : Core) (line : Line) (runs : Bool) → is_some o ≡ true → ((part : Part) → o ≡ Some part → licence ≡ licence_at m number part)
    → IsTrue (awaits_start state) → state_at core.states number ≡ state → number < length core.states → IsCoreOf core m
    → later ≡ with_started state number (blocks_in o) core → runs ≡ has_block (blocks_in o) → line ≡ start_line catalog m number licence → Begun later m (started_part catalog m number o) (started_lines line runs)
by_part None catalog m number licence state core later line runs some licensed waits e inside of is has shown = cc
by_part (Some part) catalog m number licence state core later line runs some licensed waits e inside of is has shown = record {
  fields = subst (λ x. IsCoreOf x (started_by catalog m number part (licence_at m number part))) (sym is) (begun_core state catalog m number part (licence_at m number part) core waits e inside of);
  store = refl;
  printed = ap (λ xs. m.lines ++ xs) (lines_are (start_line catalog m number (licence_at m number part)) part.script.blocks
      ∙ ap (λ l. started_lines l (has_block part.script.blocks)) (ap (start_line catalog m number) (sym (licensed part refl)) ∙ sym shown) ∙ ap (started_lines line) (sym has));
}

pub begun : (catalog : Catalog) (m : PeiMachine) (number : ℕ) (licence : Licence) (state : PeimState) (core later : Core) (line : Line) (runs : Bool) → is_some (part_at Pei catalog number) ≡ true
    → ((part : Part) → part_at Pei catalog number ≡ Some part → licence ≡ licence_at m number part)
    → IsTrue (awaits_start state) → state_at core.states number ≡ state → number < length core.states → IsCoreOf core m
    → later ≡ with_started state number (blocks_in (part_at Pei catalog number)) core → runs ≡ has_block (blocks_in (part_at Pei catalog number)) → line ≡ start_line catalog m number licence
    → Begun later m (started catalog m number) (started_lines line runs)
begun catalog m number = by_part (part_at Pei catalog number) catalog m number

-- the core stays one for its catalogue
pub begun_for : (catalog : Catalog) (fuel : ℕ) (state : PeimState) (number : ℕ) (blocks : List (List Action)) (core : Core) → state_at core.states number ≡ state → number < length core.states → IsCoreFor catalog fuel core
    → IsCoreFor catalog fuel (with_started state number blocks core)
begun_for catalog fuel state number blocks core e inside for = record {
  states = length-set core.states number (state_behind state) ∙ for.states;
  known = for.known;
  fuelled = for.fuelled;
}

-- a module that has a part is there
pub is_there : (catalog : Catalog) (fuel number : ℕ) (core : Core) → IsCoreFor catalog fuel core → is_some (part_at Pei catalog number) ≡ true → number < length core.states
is_there catalog fuel number core for some = subst (λ n. number < n) (sym for.states) (within (part_of Pei) catalog.modules number some)

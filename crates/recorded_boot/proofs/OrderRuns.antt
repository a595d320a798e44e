-- A run by what a choice may name is one by what the order names.
use Rattle.std.proofs.Common.{◌≡◌, ◌∙◌, ℕ, Bool, List, [], ◌∷◌, Option, None, inl, inr}
use Rattle.mod_catalog.specs.declared.catalogue.Catalog.{Catalog}
use Rattle.boot_model.specs.{DxeMachine.DxeMachine, PeiMachine.PeiMachine}
use Rattle.pei_dispatch.specs.Choices as P
use Rattle.dxe_dispatch.specs.Choices as D

pub due_of : (Names Other : PeiMachine → Option ℕ → Type 0) (catalog : Catalog) (m : PeiMachine) (number : ℕ) → ((n : PeiMachine) (named : Option ℕ) → Names n named → Other n named) → P.IsDue Names catalog m number → P.IsDue Other catalog m number
due_of Names Other catalog m number of d = record { idle = d.idle; named = d.named; allowed = of m d.named d.allowed; cursor = d.cursor; place = d.place; next = d.next }

step_of : (Names Other : PeiMachine → Option ℕ → Type 0) (Lets : PeiMachine → ℕ → Bool) (catalog : Catalog) (fuel : ℕ) (m later : PeiMachine) → ((n : PeiMachine) (named : Option ℕ) → Names n named → Other n named)
    → P.IsStepBy Names Lets catalog fuel m later → P.IsStepBy Other Lets catalog fuel m later
step_of Names Other Lets catalog fuel m later of (inl own) = inl own
step_of Names Other Lets catalog fuel m later of (inr start) = inr (record { number = start.number; due = due_of Names Other catalog m start.number of start.due; passes = start.passes; is = start.is })

pub run_of : (Names Other : PeiMachine → Option ℕ → Type 0) (Lets : PeiMachine → ℕ → Bool) (catalog : Catalog) (fuel : ℕ) (opening : PeiMachine) (earlier : List PeiMachine) (m : PeiMachine) → ((n : PeiMachine) (named : Option ℕ) → Names n named → Other n named)
    → P.IsRunBy Names Lets catalog fuel opening earlier m → P.IsRunBy Other Lets catalog fuel opening earlier m
run_of Names Other Lets catalog fuel opening [] m of run = run
run_of Names Other Lets catalog fuel opening (before ∷ earlier) m of run =
    (run.0, step_of Names Other Lets catalog fuel before m of run.1, run_of Names Other Lets catalog fuel opening earlier before of run.2)

-- the same in DXE
pub aimed_of : (Names Other : DxeMachine → Option ℕ → Type 0) (catalog : Catalog) (m target : DxeMachine) → ((named : Option ℕ) → Names m named → Other m named) → D.IsAimedBy Names catalog m target → D.IsAimedBy Other catalog m target
aimed_of Names Other catalog m target of a = record { named = a.named; allowed = λ choosing. of a.named (a.allowed choosing); busy = a.busy; is = a.is }

-- the names are looked at in the machines of the run, and there one lets what the other does
pub dxe_run_of : (Names Other : List DxeMachine → DxeMachine → Option ℕ → Type 0) (Lets Allows : List DxeMachine → DxeMachine → ℕ → Bool) (catalog : Catalog) (fuel : ℕ) (opening : DxeMachine) (earlier : List DxeMachine)
    → ((over : List DxeMachine) (named : Option ℕ) → Names over (D.came catalog fuel opening over) named → Other over (D.came catalog fuel opening over) named)
    → ((over : List DxeMachine) (target : DxeMachine) (number : ℕ) → (D.came catalog fuel opening over).ended ≡ None → D.IsAimedBy (Names over) catalog (D.came catalog fuel opening over) target → Allows over target number ≡ Lets over target number)
    → D.IsRunBy Names Lets catalog fuel opening earlier → D.IsRunBy Other Allows catalog fuel opening earlier
dxe_run_of Names Other Lets Allows catalog fuel opening [] of lets run = tt
dxe_run_of Names Other Lets Allows catalog fuel opening (target ∷ earlier) of lets run = (
  aimed_of (Names earlier) (Other earlier) catalog (D.came catalog fuel opening earlier) target (of earlier) run.0,
  λ number starting. lets earlier target number run.2 run.0 ∙ run.1 number starting,
  run.2,
  dxe_run_of Names Other Lets Allows catalog fuel opening earlier of lets run.3,
)

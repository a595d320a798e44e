-- What is kept of a boot that has come to its end, or to its first driver.
use Rattle.std.proofs.Common.{◌≡◌, ℕ, true, true≢false, List, Option, Some, None, Result, Ok, Err, IfOk, refl, sym, ap, ◌∙◌, subst}
use Rattle.pi_base.specs.declared.memory.OutOfMemory.{OutOfMemory}
use Rattle.mod_catalog.specs.declared.catalogue.Catalog.{Catalog}
use Rattle.store_model.specs.StoreState.{Board, StoreState}
use Rattle.boot_model.specs.{declared.phase_end.PeiEnd.PeiEnd, declared.phase_end.PeiEnd.TheVariants.Handoff, PeiMachine.PeiMachine}
use Rattle.boot_model.specs.PeiRun.{pei_end}
use Rattle.boot_laws.specs.{RunsEnd.PeiRunsEnd, declared.choice.Reached.Reached}
use Rattle.boot_laws.specs.declared.choice.Reached.TheVariants as R
use Rattle.pei_core.specs.{declared.pei.Pei.Pei, Standing.StandsFor}
use Rattle.pei_dispatch.specs.{declared.queue.PeiQueue.PeiQueue, Watched.StandsLeft, Watched.WasLast}
use Rattle.pei_dispatch.proofs.FirstRuns.{NamesNone, first_end}
use Rattle.boot_core.specs.{declared.handing_on.HandOff.HandOff, declared.whole.boot.Booted.Booted, HandOff.HandsOn, HandOff.IsKept}
use Rattle.boot_core.specs.declared.whole.boot.Booted.TheVariants as B
use Rattle.boot_core.specs.Choices.{choices_of}
use Rattle.boot_core.specs.Watched.{BootCall, BootsKnown, Knowing}

-- what is handed on, where there is something, by two facts of the machine
of_machine : (handed : Result HandOff OutOfMemory) (Is Also : PeiMachine → Type 0) (m : PeiMachine) → Is m → Also m → IfOk handed (λ one. (other : PeiMachine) → Is other → Also other → HandsOn other one) → IfOk handed (HandsOn m)
of_machine (Ok one) Is Also m is also each = each m is also
of_machine (Err e) Is Also m is also each = tt

one_end : (a b : PeiEnd) → R.End a ≡ R.End b → a ≡ b
one_end a b e = cc

-- so at the end of a run
pub is_kept : {M : Type 0} (stands : M → StoreState → Type 0) (catalog : Catalog) (fuel : ℕ) (earlier all : List PeiMachine) (m last : PeiMachine) (reached : Reached PeiEnd) (pei : Pei M) (queue : PeiQueue) (end : PeiEnd) (store : M) (handed : Result HandOff OutOfMemory)
    → reached ≡ R.End end → WasLast catalog fuel earlier m all last reached → StandsLeft stands catalog pei queue last reached → ((x : PeiMachine) → StandsFor stands pei x → stands store x.store)
    → IfOk handed (λ one. (x : PeiMachine) → stands store x.store → x.ended ≡ Some end → HandsOn x one) → IsKept (Some handed) last reached
is_kept stands catalog fuel earlier all m last (R.End how) pei queue end store handed is was left holds hands =
    let there = holds (record last { ended = None; core_sweep = left.sweep }) left.machine in
    (handed, refl, of_machine handed (λ x. stands store x.store) (λ x. x.ended ≡ Some end) last there (was.2 ∙ ap Some (one_end how end is)) hands)
is_kept stands catalog fuel earlier all m last (R.Barred number) pei queue end store handed is was left holds hands = tt

-- what the end of PEI hands on is kept
abbrev pub KeepsEnd : Option (Result HandOff OutOfMemory) → PeiMachine → Type 0
KeepsEnd kept m = (handed : Result HandOff OutOfMemory) × (kept ≡ Some handed) × IfOk handed (HandsOn m)

pub hands_on : {M S : Type 0} (w : Knowing) (kept : Option (Result HandOff OutOfMemory)) (call : BootCall M S) (board : Board) (first : S) (booted : Booted M) → PeiRunsEnd
    → ((catalog : Catalog) (fuel : ℕ) (all : List PeiMachine) (m : PeiMachine) (reached : Reached PeiEnd) → w.pei catalog fuel all m reached → IsKept kept m reached)
    → NamesNone (choices_of call.by call.catalog call.fuel first).peims → ((m : PeiMachine) (number : ℕ) → (choices_of call.by call.catalog call.fuel first).lets_peim m number ≡ true)
    → BootsKnown w call board first (Ok booted) → KeepsEnd kept (pei_end board call.catalog call.fuel)
hands_on w kept call board first (B.Ended ran) ends keeps none lets watched =
    let choices = choices_of call.by call.catalog call.fuel first in
    let boot = watched.by.boot in
    let is = first_end ends choices.peims choices.lets_peim board call.catalog call.fuel boot.pei boot.how none boot.comes boot.ended in
    subst (KeepsEnd kept) is (keeps call.catalog call.fuel boot.comes.earlier boot.pei (R.End boot.how) watched.known.0)
hands_on w kept call board first (B.BarredInPei barred) ends keeps none lets watched = absurd (true≢false (sym (lets watched.by.m barred.number) ∙ watched.by.bars.barred))
hands_on w kept call board first (B.BarredInDxe left barred) ends keeps none lets watched =
    let choices = choices_of call.by call.catalog call.fuel first in
    let has = watched.by in
    let is = first_end ends choices.peims choices.lets_peim board call.catalog call.fuel has.pei Handoff none has.comes has.ended in
    subst (KeepsEnd kept) is (keeps call.catalog call.fuel has.comes.earlier has.pei (R.End Handoff) watched.known.0)

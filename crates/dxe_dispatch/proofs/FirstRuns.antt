-- A run by choices that name none is the run of the machine.
use Rattle.std.proofs.Common.{◌≡◌, ℕ, zero, suc, ◌+◌, arith, Bool, true, List, [], ◌∷◌, ◌++◌, Option, Some, None, refl, sym, ap, ◌∙◌, is_some, length}
use Rattle.mod_catalog.specs.declared.catalogue.Catalog.{Catalog}
use Rattle.boot_model.specs.{declared.line.Line.Line, declared.phase_end.DxeEnd.DxeEnd, DxeMachine.DxeMachine, DxeRun.dxe_run}
use Rattle.boot_model.specs.DxeStep.{dxe_step}
use Rattle.dxe_dispatch.specs.Choices.{IsAimedBy, IsRunBy, aimed_at, came}
use Rattle.dxe_dispatch.proofs.Runs.{goes, run_tells, stays}

-- no driver is named
abbrev pub NamesNone : (List DxeMachine → DxeMachine → Option ℕ → Type 0) → Type 0
NamesNone Names = (earlier : List DxeMachine) (m : DxeMachine) (named : Option ℕ) → Names earlier m named → named ≡ None

no_number : (n : ℕ) → Some n ≡ None → ⊥
no_number n e = cc

-- so each step is the machine's own
own_target : (Names : List DxeMachine → DxeMachine → Option ℕ → Type 0) (earlier : List DxeMachine) (catalog : Catalog) (m target : DxeMachine) → NamesNone Names → IsAimedBy (Names earlier) catalog m target → target ≡ m
own_target Names earlier catalog m target own by = by.is ∙ ap (aimed_at catalog m) (none by.named refl)
  where
    none : (o : Option ℕ) → by.named ≡ o → by.named ≡ None
    none None e = e
    none (Some n) e = by.busy (λ choosing. no_number n (sym e ∙ own earlier m by.named (by.allowed choosing)))

-- so many steps, and then so many more
pub steps_then : (catalog : Catalog) (fuel a b : ℕ) (m : DxeMachine) → dxe_run catalog fuel (a + b) m ≡ dxe_run catalog fuel b (dxe_run catalog fuel a m)
steps_then catalog fuel zero b m = let same : 0 + b ≡ b = omega arith in ap (λ k. dxe_run catalog fuel k m) same
steps_then catalog fuel (suc a) b m =
    let more : suc a + b ≡ suc (a + b) = omega arith in
    ap (λ k. dxe_run catalog fuel k m) more ∙ by m.ended refl (steps_then catalog fuel a b (dxe_step catalog fuel m))
  where
    by : (o : Option DxeEnd) → m.ended ≡ o → dxe_run catalog fuel (a + b) (dxe_step catalog fuel m) ≡ dxe_run catalog fuel b (dxe_run catalog fuel a (dxe_step catalog fuel m))
        → dxe_run catalog fuel (suc (a + b)) m ≡ dxe_run catalog fuel b (dxe_run catalog fuel (suc a) m)
    by (Some how) e rest = stays catalog fuel (suc (a + b)) m how e ∙ sym (stays catalog fuel b m how e) ∙ ap (dxe_run catalog fuel b) (sym (stays catalog fuel (suc a) m how e))
    by None e rest = goes catalog fuel (a + b) m e ∙ rest ∙ ap (dxe_run catalog fuel b) (sym (goes catalog fuel a m e))

-- the machine is that of the run behind as many steps
run_goes : (Names : List DxeMachine → DxeMachine → Option ℕ → Type 0) (Lets : List DxeMachine → DxeMachine → ℕ → Bool) (catalog : Catalog) (fuel n : ℕ) (opening : DxeMachine) (earlier : List DxeMachine) → NamesNone Names → IsRunBy Names Lets catalog fuel opening earlier
    → dxe_run catalog fuel (length earlier + n) opening ≡ dxe_run catalog fuel n (came catalog fuel opening earlier)
run_goes Names Lets catalog fuel n opening [] own run =
    let none : length {A = DxeMachine} [] + n ≡ n = omega arith in
    ap (λ k. dxe_run catalog fuel k opening) none
run_goes Names Lets catalog fuel n opening (target ∷ earlier) own run =
    let m = came catalog fuel opening earlier in
    let more : length (target ∷ earlier) + n ≡ length earlier + suc n = omega arith in
    ap (λ k. dxe_run catalog fuel k opening) more ∙ run_goes Names Lets catalog fuel (suc n) opening earlier own run.3 ∙ goes catalog fuel n m run.2
    ∙ ap (λ x. dxe_run catalog fuel n (dxe_step catalog fuel x)) (sym (own_target Names earlier catalog m target own run.0))

some : (o : Option DxeEnd) → is_some o ≡ true → (how : DxeEnd) × (o ≡ Some how)
some None e = absurd (cc)
some (Some how) e = (how, refl)

-- and the end of the run is ahead of it
end_ahead : (Names : List DxeMachine → DxeMachine → Option ℕ → Type 0) (Lets : List DxeMachine → DxeMachine → ℕ → Bool) (catalog : Catalog) (fuel bound : ℕ) (opening : DxeMachine) (earlier : List DxeMachine) → NamesNone Names → is_some (dxe_run catalog fuel bound opening).ended ≡ true → IsRunBy Names Lets catalog fuel opening earlier
    → dxe_run catalog fuel bound opening ≡ dxe_run catalog fuel bound (came catalog fuel opening earlier)
end_ahead Names Lets catalog fuel bound opening earlier own ends run =
    let over = some (dxe_run catalog fuel bound opening).ended ends in
    let far : length earlier + bound ≡ bound + length earlier = omega arith in
    let there : dxe_run catalog fuel (length earlier + bound) opening ≡ dxe_run catalog fuel bound opening =
    ap (λ k. dxe_run catalog fuel k opening) far ∙ steps_then catalog fuel bound (length earlier) opening ∙ stays catalog fuel (length earlier) (dxe_run catalog fuel bound opening) over.0 over.1 in
    sym there ∙ run_goes Names Lets catalog fuel bound opening earlier own run

-- where it ended, the run of the machine did
pub first_end : (Names : List DxeMachine → DxeMachine → Option ℕ → Type 0) (Lets : List DxeMachine → DxeMachine → ℕ → Bool) (catalog : Catalog) (fuel bound : ℕ) (opening : DxeMachine) (earlier : List DxeMachine) (how : DxeEnd) → NamesNone Names → is_some (dxe_run catalog fuel bound opening).ended ≡ true
    → IsRunBy Names Lets catalog fuel opening earlier → (came catalog fuel opening earlier).ended ≡ Some how → came catalog fuel opening earlier ≡ dxe_run catalog fuel bound opening
first_end Names Lets catalog fuel bound opening earlier how own ends run ended =
    sym (end_ahead Names Lets catalog fuel bound opening earlier own ends run ∙ stays catalog fuel bound (came catalog fuel opening earlier) how ended)

-- the lines of the run of the machine begin with those of each machine of it
pub first_lines : (Names : List DxeMachine → DxeMachine → Option ℕ → Type 0) (Lets : List DxeMachine → DxeMachine → ℕ → Bool) (catalog : Catalog) (fuel bound : ℕ) (opening : DxeMachine) (earlier : List DxeMachine) → NamesNone Names → is_some (dxe_run catalog fuel bound opening).ended ≡ true
    → IsRunBy Names Lets catalog fuel opening earlier → (more : List Line) × ((dxe_run catalog fuel bound opening).lines ≡ (came catalog fuel opening earlier).lines ++ more)
first_lines Names Lets catalog fuel bound opening earlier own ends run =
    let more = run_tells catalog fuel bound (came catalog fuel opening earlier) in
    (more.0, ap (λ (x : DxeMachine). x.lines) (end_ahead Names Lets catalog fuel bound opening earlier own ends run) ∙ more.1)

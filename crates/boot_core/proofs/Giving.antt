-- A boot by choices, from what its two parts leave.
use Rattle.std.proofs.Common.{◌≡◌, ◌∙◌, ℕ, Bool, IfOk, List, Option, Some, Result, Ok, Err, ap, refl, sym, inl, inr, subst}
use Rattle.boot_io.specs.declared.halt.Halt.{Halt}
use Rattle.boot_io.specs.declared.halt.Halt.TheVariants as H
use Rattle.mod_catalog.specs.declared.catalogue.Catalog.{Catalog}
use Rattle.store_model.specs.StoreState.{Board, StoreState}
use Rattle.boot_model.specs.{declared.phase_end.PeiEnd.PeiEnd, declared.phase_end.PeiEnd.TheVariants.Handoff, PeiRun.pei_opening}
use Rattle.pei_dispatch.specs.{declared.boot.Ended.Ended, declared.boot.Left.Left, Choices.BootsBy, Choices.HasBooted, Ends.IsWantedBefore}
use Rattle.boot_core.specs.{declared.whole.behind.Behind.Behind, declared.whole.behind.Last.Last}
use Rattle.boot_core.specs.declared.whole.behind.Behind.TheVariants.{Closed, Barred}
use Rattle.boot_core.specs.{declared.whole.boot.Booted.Booted, FreeWay.AreFree, FreeWay.GoesFreely, Choices.Choices, Choices.choices_of}
use Rattle.boot_core.specs.Watched.{BootCall, BootsKnown, ComesKnown, Knowing}
use Rattle.boot_laws.specs.declared.choice.Reached.TheVariants as R
use Rattle.boot_core.specs.declared.whole.boot.Booted.TheVariants as B
use Rattle.boot_core.specs.Behind.{HasClosed, HasComeBehind, left_by}
use Rattle.boot_core.proofs.FreeBoots.{goes_freely}
use Rattle.dxe_dispatch.specs.declared.boot.Barred.{Barred as BarredDriver}
use Rattle.boot_core.specs.ByChoice.{BarsInDxe, BootsTo, HasCome, HasRun, IsBarredInDxe, StopsBehindPei}

-- it has come to its end
unfoldable pub has_run : {M : Type 0} (choices : Choices) (stands : M → StoreState → Type 0) (board : Board) (catalog : Catalog) (fuel : ℕ) (left : Ended M) (last : Last) (old mid new : Option (List ℕ))
    → (pei : HasBooted choices.peims choices.lets_peim stands catalog fuel (pei_opening board catalog) left old mid) → HasClosed choices catalog fuel pei.«end» left.«end» last old new
    → HasRun choices stands board catalog fuel (record { «end» = last.«end»; pei = left; handles = last.handles; before = last.before }) old new
has_run choices stands board catalog fuel left last old mid new pei told = record {
  boot = record { pei = pei.«end»; comes = pei.comes; how = left.«end»; ended = pei.ended.ended; lines = told.lines; handles = last.handles; result = last.«end»; ends = told.ends };
  how_is = refl;
  end_is = refl;
  left = pei.is_left;
  handles_are = refl;
  before_is = told.before_is;
  text = told.text;
}

-- or to the start of a driver that is not let
unfoldable pub is_barred : {M : Type 0} (choices : Choices) (stands : M → StoreState → Type 0) (board : Board) (catalog : Catalog) (fuel : ℕ) (left : Ended M) (barred : BarredDriver) (old mid new : Option (List ℕ))
    → (pei : HasBooted choices.peims choices.lets_peim stands catalog fuel (pei_opening board catalog) left old mid) → left.«end» ≡ Handoff → BarsInDxe choices catalog fuel pei.«end» barred old new
    → IsBarredInDxe choices stands board catalog fuel left barred old new
is_barred choices stands board catalog fuel left barred old mid new pei handed bars =
    record { pei = pei.«end»; comes = pei.comes; ended = pei.ended.ended ∙ ap Some handed; how_is = handed; left_is = pei.is_left; bars = bars }

-- what it came to behind the end of PEI
unfoldable pub has_come : {M : Type 0} (choices : Choices) (stands : M → StoreState → Type 0) (board : Board) (catalog : Catalog) (fuel : ℕ) (left : Ended M) (behind : Behind) (old mid new : Option (List ℕ))
    → (pei : HasBooted choices.peims choices.lets_peim stands catalog fuel (pei_opening board catalog) left old mid) → HasComeBehind choices catalog fuel pei.«end» left.«end» old new behind
    → HasCome choices stands board catalog fuel old new (left_by left behind)
has_come choices stands board catalog fuel left (Closed last) old mid new pei told = has_run choices stands board catalog fuel left last old mid new pei told
has_come choices stands board catalog fuel left (Barred barred) old mid new pei told = is_barred choices stands board catalog fuel left barred old mid new pei told.0 told.1

-- and whatever it came to, it is a free boot
pub freely : {M S : Type 0} (choices : Choices) (text : S → Option (List ℕ)) (faults : S → ℕ) (stands : M → StoreState → Type 0) (takes : Bool) (board : Board) (catalog : Catalog) (fuel : ℕ)
    (sink shown : S) (result : Result (Booted M) Halt) → AreFree choices → BootsTo choices text faults stands takes board catalog fuel sink shown result
    → IfOk result (GoesFreely board catalog fuel (record { old = text sink; new = text shown }))
freely choices text faults stands takes board catalog fuel sink shown (Ok booted) free by = goes_freely choices stands board catalog fuel (text sink) (text shown) booted free by
freely choices text faults stands takes board catalog fuel sink shown (Err halt) free by = tt

-- the same with what the watchers know
pub knows_come : {M S : Type 0} (w : Knowing) (call : BootCall M S) (board : Board) (first : S) (left : Ended M) (behind : Behind)
    → (pei : HasBooted (choices_of call.by call.catalog call.fuel first).peims (choices_of call.by call.catalog call.fuel first).lets_peim call.stands call.catalog call.fuel (pei_opening board call.catalog) left (call.by.text first) (call.by.text call.sink))
    → w.pei call.catalog call.fuel pei.comes.earlier pei.«end» (R.End left.«end») → ComesKnown w.dxe call pei.«end» left.«end» first (Ok behind) → BootsKnown w call board first (Ok (left_by left behind))
unfolding has_come has_run is_barred
knows_come w call board first left (Closed last) pei known told =
    let text = call.by.text in
    record { by = has_come (choices_of call.by call.catalog call.fuel first) call.stands board call.catalog call.fuel left (Closed last) (text first) (text call.sink) (text call.shown) pei told.by; known = (known, told.known) }
knows_come w call board first left (Barred barred) pei known told =
    let text = call.by.text in
    let Known : PeiEnd → Type 0 = λ how. w.pei call.catalog call.fuel pei.comes.earlier pei.«end» (R.End how) in
    record { by = has_come (choices_of call.by call.catalog call.fuel first) call.stands board call.catalog call.fuel left (Barred barred) (text first) (text call.sink) (text call.shown) pei told.by; known = (subst Known told.by.0 known, told.known) }

-- it was given up behind the end of PEI
pub given_up_behind : {M S : Type 0} (choices : Choices) (text : S → Option (List ℕ)) (faults : S → ℕ) (stands : M → StoreState → Type 0) (takes : Bool) (board : Board) (catalog : Catalog) (fuel : ℕ)
    (sink shown : S) (halt : Halt) → StopsBehindPei choices text faults board catalog fuel sink shown → BootsTo choices text faults stands takes board catalog fuel sink shown (Err halt)
given_up_behind choices text faults stands takes board catalog fuel sink shown H.Sink stops = inr stops
given_up_behind choices text faults stands takes board catalog fuel sink shown H.Memory stops = inr stops

-- or in PEI
pub given_up_in_pei : {M S : Type 0} (choices : Choices) (text : S → Option (List ℕ)) (faults : S → ℕ) (stands : M → StoreState → Type 0) (takes : Bool) (board : Board) (catalog : Catalog) (fuel : ℕ)
    (sink shown : S) (halt : Halt) → BootsBy choices.peims choices.lets_peim stands catalog fuel (pei_opening board catalog) (text sink) (text shown) (Err halt) → IsWantedBefore {A = Left M} takes (text sink) (text shown) (Err halt)
    → BootsTo choices text faults stands takes board catalog fuel sink shown (Err halt)
given_up_in_pei choices text faults stands takes board catalog fuel sink shown H.Sink stops before = inl stops
given_up_in_pei choices text faults stands takes board catalog fuel sink shown H.Memory stops before = inl (record { stops = stops; before = before })

-- it was given up, whereof nothing is known
pub knows_none : {M S : Type 0} (w : Knowing) (call : BootCall M S) (board : Board) (first : S) (result : Result (Booted M) Halt) (given halt : Halt) → result ≡ Err given → given ≡ halt
    → BootsTo (choices_of call.by call.catalog call.fuel first) call.by.text call.by.faults call.stands call.takes board call.catalog call.fuel first call.shown (Err halt) → BootsKnown w call board first result
knows_none {M = M} w call board first result given halt e f by =
    let P : Result (Booted M) Halt → Type 0 = λ r. BootsKnown w call board first r in
    subst P (sym (e ∙ ap (λ (h : Halt). Err h) f)) (record { by = by; known = tt })

-- the same of a call that began with another sink
pub known_from : {M S : Type 0} (w : Knowing) (call : BootCall M S) (board : Board) (first sink : S) (result : Result (Booted M) Halt) → BootsKnown w call board first result → BootsKnown w (record call { sink = sink }) board first result
known_from w call board first sink (Ok (B.Ended ran)) on = record { by = on.by; known = on.known }
known_from w call board first sink (Ok (B.BarredInPei barred)) on = record { by = on.by; known = on.known }
known_from w call board first sink (Ok (B.BarredInDxe left barred)) on = record { by = on.by; known = on.known }
known_from w call board first sink (Err halt) on = record { by = on.by; known = tt }

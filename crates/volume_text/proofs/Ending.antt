-- What calls answer, put together.
use Rattle.std.proofs.Common.{◌≡◌, ℕ, Bool, true, false, nat_lt, length, List, [], ◌∷◌, ◌++◌, Option, Some, None, Result, Ok, Err, refl, sym, ap, subst, IfOk, All}
use Rattle.std.specs.List.{AllByRecursion}
use Rattle.std.proofs.lemmas.List.Elements.{All-nil, All-cons, All-append, All-from_recursion, recursion_from_All}
use Rattle.fv_volume.specs.declared.sections.section_type.TheConstants.{RAW, VOLUME_IMAGE}
use Rattle.pi_base.specs.declared.phase.Phase.{Phase}
use Rattle.fv_volume.specs.{declared.build.new_file.NewFile.NewFile, declared.build.new_file.NewSection.NewSection}
use Rattle.fv_volume.specs.declared.build.volume_header.VolumeForm.{VolumeForm}
use Rattle.act_code.specs.{declared.action.Action.Action, declared.script.Script.Script}
use Rattle.source_words.specs.Script.{IsSaid, AreSaid}
use Rattle.volume_text.specs.{declared.fault.Stop.Stop, declared.fault.TextFault.TextFault, declared.statement.Statement.Statement}
use Rattle.volume_text.specs.declared.fault.Stop.TheVariants as stop
use Rattle.volume_text.specs.declared.fault.TextFault.TheVariants as text_fault
use Rattle.volume_text.specs.{declared.volume.OpenVolume.OpenVolume, declared.step.State.State, declared.fault.Cause.Cause, Line.Reads}
use Rattle.volume_text.specs.declared.step.State.TheVariants.{Begin, Filling, Writing, Done}
use Rattle.volume_text.specs.declared.step.TheConstants.{MOST_INSIDE}
use Rattle.volume_text.specs.declared.fault.Cause.TheVariants as cause
use Rattle.volume_text.specs.Reading.{◌>>=◌, only_if, Stops, Gives, StopsAs, StopsText, Answers, at}
use Rattle.volume_text.specs.Open.{with_section, depex_type, depex_checked, built_of}
use Rattle.volume_text.specs.Script.{last_block, script_of, with_block, IsScriptBody}
use Rattle.volume_text.specs.Step.{IsSaidState, section_of, new_volume, filling_with, filling, nested_in, nested, with_depex, last_volume, closed_in, closed, at_line, EndsScript, Takes, Steps}
use Rattle.volume_text.proofs.Lasts.{last_is}

-- the last of a list, and the others
parts : {A : Type 0} (P : A → Type 0) (xs : List A) (y : A) → AllByRecursion P (xs ++ y ∷ []) → AllByRecursion P xs × P y
parts P [] y all = (tt, all.0)
parts P (x ∷ xs) y all = let p = parts P xs y all.1 in ((all.0, p.0), p.1)

said_more : (P : Action → Type 0) (others : List (List Action)) (last : List Action) (one : Action) → All (All P) (others ++ last ∷ []) → P one → All (All P) (others ++ (last ++ one ∷ []) ∷ [])
said_more P others last one all is =
    let both = parts (All P) others last (recursion_from_All (All P) (others ++ last ∷ []) all) in
    let longer = All-append P last (one ∷ []) both.1 (All-cons P one [] is (All-nil P)) in
    All-append (All P) others ((last ++ one ∷ []) ∷ []) (All-from_recursion (All P) others both.0) (All-cons (All P) (last ++ one ∷ []) [] longer (All-nil (All P)))

-- the actions of a script with one more are such as lines say
pub with_said : (script : Script) (others blocks : List (List Action)) (last longer : List Action) (one : Action) → last_block script.blocks ≡ Some (others, last) → AreSaid script → IsSaid script.phase one
    → longer ≡ last ++ one ∷ [] → blocks ≡ others ++ longer ∷ [] → AreSaid (script_of script.phase blocks)
with_said script others blocks last longer one found said is more all =
    let whole = subst (All (All (IsSaid script.phase))) (last_is script.blocks (others, last) found) said in
    rw (all, more) (said_more (IsSaid script.phase) others last one whole is)

-- the actions of the script with one more block
pub block_said : (script : Script) → AreSaid script → AreSaid (with_block script)
block_said script said =
    let P : Action → Type 0 = IsSaid script.phase in
    All-append (All P) script.blocks ([] ∷ []) said (All-cons (All P) [] [] (All-nil P) (All-nil (All P)))

-- where a volume goes on, no script is open
pub goes_on_said : (below : List OpenVolume) (top : Result OpenVolume Cause) (state : State) → (top >>= (λ last. Ok (Filling below last))) ≡ Ok state → IsSaidState state
goes_on_said below (Ok last) (Writing b t script lines) e = absurd cc
goes_on_said below (Err why) (Writing b t script lines) e = absurd cc
goes_on_said below top Begin e = tt
goes_on_said below top (Filling b t) e = tt
goes_on_said below top (Done bytes) e = tt

-- what is made of a volume as it has become
pub topped : (below : List OpenVolume) (made : Result OpenVolume Stop) (read : Result OpenVolume Cause) → Gives (λ x. x) made read
    → Gives (λ x. x) (filling_with below made) (read >>= (λ last. Ok (Filling below last)))
topped below (Ok top) read told = ap (λ (r : Result OpenVolume Cause). r >>= (λ last. Ok (Filling below last))) told
topped below (Err stop.Memory) read told = tt
topped below (Err (stop.Fault cause)) read told = ap (λ (r : Result OpenVolume Cause). r >>= (λ last. Ok (Filling below last))) told

pub topped_said : (below : List OpenVolume) (made : Result OpenVolume Stop) → IfOk (filling_with below made) IsSaidState
topped_said below (Ok top) = tt
topped_said below (Err e) = tt

-- what a call returned is said where the definition's state is
gives_said : (made : Result State Stop) (read : Result State Cause) → IfOk read IsSaidState → Gives (λ x. x) made read → IfOk made IsSaidState
gives_said (Err e) read said told = tt
gives_said (Ok state) read said told = subst (λ (r : Result State Cause). IfOk r IsSaidState) told said

more_said : (below : List OpenVolume) (top : Result OpenVolume Cause) → IfOk (top >>= (λ last. Ok (Filling below last))) IsSaidState
more_said below (Ok last) = tt
more_said below (Err why) = tt

part_said : (below : List OpenVolume) (top : OpenVolume) (section : NewSection) (part : Result (Unit {0}) Cause) → IfOk (part >>= (λ _. filling below top section)) IsSaidState
part_said below top section (Ok x) = more_said below (with_section top section)
part_said below top section (Err why) = tt

allowed_said : (test : Bool) (c : Cause) (below : List OpenVolume) (top : OpenVolume) → IfOk (only_if test c (Filling below top)) IsSaidState
allowed_said true c below top = tt
allowed_said false c below top = tt

nested_in_said : (files : List NewFile) (below : List OpenVolume) (top : OpenVolume) (form : VolumeForm) (len : ℕ) → IfOk (nested_in files below top form len) IsSaidState
nested_in_said [] below top form len = tt
nested_in_said (file ∷ files) below top form len = allowed_said (nat_lt (length below) MOST_INSIDE) cause.Nesting (below ++ top ∷ []) (new_volume form len)

closed_in_said : (bytes : List ℕ) (last : Option (List OpenVolume × OpenVolume)) → IfOk (closed_in bytes last) IsSaidState
closed_in_said bytes None = tt
closed_in_said bytes (Some parts) = more_said parts.0 (with_section parts.1 (section_of VOLUME_IMAGE bytes))

built_said : (below : List OpenVolume) (built : Result (List ℕ) Cause) → IfOk (built >>= (λ bytes. closed_in bytes (last_volume below))) IsSaidState
built_said below (Ok bytes) = closed_in_said bytes (last_volume below)
built_said below (Err why) = tt

pub nested_said : (below : List OpenVolume) (top : OpenVolume) (form : VolumeForm) (len : ℕ) (made : Result State Stop) → Gives (λ x. x) made (nested below top form len) → IfOk made IsSaidState
nested_said below top form len made = gives_said made (nested below top form len) (nested_in_said top.files below top form len)

pub filling_said : (below : List OpenVolume) (top : OpenVolume) (section : NewSection) (made : Result State Stop) → Gives (λ x. x) made (filling below top section) → IfOk made IsSaidState
filling_said below top section made = gives_said made (filling below top section) (more_said below (with_section top section))

pub depex_said : (below : List OpenVolume) (top : OpenVolume) (phase : Phase) (body : List ℕ) (made : Result State Stop) → Gives (λ x. x) made (with_depex below top phase body) → IfOk made IsSaidState
depex_said below top phase body made =
    gives_said made (with_depex below top phase body) (part_said below top (section_of (depex_type phase) body) (depex_checked phase top))

pub closed_said : (below : List OpenVolume) (top : OpenVolume) (made : Result State Stop) → Gives (λ x. x) made (closed below top) → IfOk made IsSaidState
closed_said below top made = gives_said made (closed below top) (built_said below (built_of top))

-- the end of a script
pub ended_stops : (below : List OpenVolume) (top : OpenVolume) (script : Script) (slice lines : List ℕ) (line : ℕ) (why : TextFault) → slice ≡ lines → StopsText (IsScriptBody script slice line) why
    → StopsText (EndsScript below top script lines line) why
ended_stops below top script slice lines line (text_fault.Bad fault) same told = (Err fault, subst (λ (ls : List ℕ). IsScriptBody script ls line (Err fault)) same told, refl)
ended_stops below top script slice lines line text_fault.Memory same told = tt

pub ended_there : (below : List OpenVolume) (top : OpenVolume) (script : Script) (slice lines : List ℕ) (line : ℕ) (body : List ℕ) (state : State) → slice ≡ lines → IsScriptBody script slice line (Ok body)
    → filling below top (section_of RAW body) ≡ Ok state → EndsScript below top script lines line (Ok state)
ended_there below top script slice lines line body state same told is = (Ok body, subst (λ (ls : List ℕ). IsScriptBody script ls line (Ok body)) same told, ap (at line) (sym is))

pub ended_not : (below : List OpenVolume) (top : OpenVolume) (script : Script) (slice lines : List ℕ) (line : ℕ) (body : List ℕ) (why : Stop) → slice ≡ lines → IsScriptBody script slice line (Ok body)
    → Stops why (filling below top (section_of RAW body)) → StopsText (EndsScript below top script lines line) (at_line line why)
ended_not below top script slice lines line body (stop.Fault cause) same told is = (Ok body, subst (λ (ls : List ℕ). IsScriptBody script ls line (Ok body)) same told, ap (at line) (sym is))
ended_not below top script slice lines line body stop.Memory same told is = tt

-- a line
pub steps_by : (state : State) (number : ℕ) (line : List ℕ) (said : Statement) (result : Result State TextFault) → Reads line (Ok said) → Answers (Takes state number said) result
    → Answers (Steps state number line) result
steps_by state number line said (Ok next) reads takes = (Ok said, reads, takes)
steps_by state number line said (Err (text_fault.Bad fault)) reads takes = (Ok said, reads, takes)
steps_by state number line said (Err text_fault.Memory) reads takes = tt

pub steps_not : (state : State) (number : ℕ) (line : List ℕ) (why : Stop) → StopsAs (Reads line) why → StopsText (Steps state number line) (at_line number why)
steps_not state number line (stop.Fault cause) told = (Err cause, told, refl)
steps_not state number line stop.Memory told = tt

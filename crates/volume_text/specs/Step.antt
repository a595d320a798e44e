-- What is open behind one line more (own), and what is wrong with a line where it stands.
use Rattle.std.specs.Prelude.{◌≡◌, ℕ, ⊤, nat_lt, List, [], ◌∷◌, ◌++◌, length, Option, Some, None, Result, Ok, Err}
use Rattle.pi_base.specs.declared.phase.Phase.{Phase}
use Rattle.fv_volume.specs.declared.sections.section_type.TheConstants.{RAW, VOLUME_IMAGE}
use Rattle.fv_volume.specs.{declared.build.new_file.NewFile.NewFile, declared.build.new_file.NewSection.NewSection}
use Rattle.act_code.specs.declared.script.Script.{Script}
use Rattle.source_words.specs.Script.{AreSaid}
use Rattle.volume_text.specs.{declared.fault.Cause.Cause, declared.fault.Fault.Fault, declared.fault.Stop.Stop}
use Rattle.volume_text.specs.declared.fault.Cause.TheVariants as cause
use Rattle.volume_text.specs.declared.fault.Stop.TheVariants as stop
use Rattle.volume_text.specs.{declared.fault.TextFault.TextFault, declared.statement.Statement.Statement}
use Rattle.volume_text.specs.declared.fault.TextFault.TheVariants as text_fault
use Rattle.fv_volume.specs.declared.build.volume_header.VolumeForm.{VolumeForm}
use Rattle.volume_text.specs.declared.statement.Statement.TheVariants as statement
use Rattle.volume_text.specs.{declared.volume.OpenVolume.OpenVolume, declared.step.State.State, Line.Reads}
use Rattle.volume_text.specs.declared.step.State.TheVariants.{Begin, Filling, Writing, Done}
use Rattle.volume_text.specs.declared.step.TheConstants.{MOST_INSIDE}
use Rattle.volume_text.specs.Reading.{◌>>=◌, only_if, at, onward}
use Rattle.volume_text.specs.Open.{last_of, with_section, with_last_body, with_file, with_pad, with_name, depex_type, depex_checked, script_checked, built_of}
use Rattle.volume_text.specs.Script.{script_of, with_block, with_action, IsScriptBody}

-- the actions of the script that is open are such as lines say
abbrev pub IsSaidState : State → Type 0
IsSaidState (Writing below top script lines) = AreSaid script
IsSaidState _ = ⊤

abbrev pub section_of : ℕ → List ℕ → NewSection
section_of kind body = record { kind = kind; body = body }

abbrev pub new_volume : VolumeForm → ℕ → OpenVolume
new_volume form len = record { form = form; len = len; name = None; files = [] }

-- the first line is a volume's
abbrev pub begun : Statement → Result State Cause
begun (statement.Volume form len) = Ok (Filling [] (new_volume form len))
begun _ = Err cause.NoVolume

-- the innermost volume as it has become
abbrev pub filling_with : List OpenVolume → Result OpenVolume Stop → Result State Stop
filling_with below (Ok top) = Ok (Filling below top)
filling_with below (Err e) = Err e

-- a section more in the last file
abbrev pub filling : List OpenVolume → OpenVolume → NewSection → Result State Cause
filling below top section = with_section top section >>= (λ top. Ok (Filling below top))

-- a volume in the last file, where it is not nested too deep
abbrev pub nested_in : List NewFile → List OpenVolume → OpenVolume → VolumeForm → ℕ → Result State Cause
nested_in [] below top form len = Err cause.NoFile
nested_in (file ∷ files) below top form len = only_if (nat_lt (length below) MOST_INSIDE) cause.Nesting (Filling (below ++ top ∷ []) (new_volume form len))

abbrev pub nested : List OpenVolume → OpenVolume → VolumeForm → ℕ → Result State Cause
nested below top form len = nested_in top.files below top form len

abbrev pub with_depex : List OpenVolume → OpenVolume → Phase → List ℕ → Result State Cause
with_depex below top phase body = depex_checked phase top >>= (λ _. filling below top (section_of (depex_type phase) body))

abbrev pub with_script : List OpenVolume → OpenVolume → Phase → Result State Cause
with_script below top phase = script_checked phase top >>= (λ _. Ok (Writing below top (script_of phase []) []))

abbrev pub last_volume : List OpenVolume → Option (List OpenVolume × OpenVolume)
last_volume below = last_of below

-- a volume that has ended is a section of the one that it stands in, or it is all
abbrev pub closed_in : List ℕ → Option (List OpenVolume × OpenVolume) → Result State Cause
closed_in bytes None = Ok (Done bytes)
closed_in bytes (Some parts) = filling parts.0 parts.1 (section_of VOLUME_IMAGE bytes)

abbrev pub closed : List OpenVolume → OpenVolume → Result State Cause
closed below top = built_of top >>= (λ bytes. closed_in bytes (last_volume below))

-- a statement more in a volume
abbrev pub filled : List OpenVolume → OpenVolume → Statement → Result State Cause
filled below top (statement.Volume form len) = nested below top form len
filled below top (statement.Name name) = with_name top name >>= (λ top. Ok (Filling below top))
filled below top (statement.Pad len) = with_pad top len >>= (λ top. Ok (Filling below top))
filled below top (statement.File kind name attributes) = Ok (Filling below (with_file top kind name attributes))
filled below top (statement.Body bytes) = with_last_body top bytes >>= (λ top. Ok (Filling below top))
filled below top (statement.Section kind body) = filling below top (section_of kind body)
filled below top (statement.Depex phase body) = with_depex below top phase body
filled below top (statement.Script phase) = with_script below top phase
filled below top statement.End = closed below top
filled below top statement.Block = Err cause.NoScript
filled below top (statement.Action line) = Err cause.UnknownLine

-- a statement more in a script, which is not its `end`
abbrev pub written : Script → Statement → Result Script Cause
written script statement.Block = Ok (with_block script)
written script (statement.Action line) = with_action script line
written script _ = Err cause.InScript

abbrev pub at_line : ℕ → Stop → TextFault
at_line line (stop.Fault cause) = text_fault.Bad (record { line = line; cause = cause })
at_line line stop.Memory = text_fault.Memory

abbrev pub goes_on : List OpenVolume → OpenVolume → Script → List ℕ → ℕ → Statement → Result State Fault
goes_on below top script lines line said = at line (written script said >>= (λ script. Ok (Writing below top script (lines ++ line ∷ []))))

-- a script that ends is a raw section of the last file
abbrev pub EndsScript : List OpenVolume → OpenVolume → Script → List ℕ → ℕ → Result State Fault → Type 0
EndsScript below top script lines line taken =
    (body : Result (List ℕ) Fault) × IsScriptBody script lines line body × (taken ≡ onward body (λ bytes. at line (filling below top (section_of RAW bytes))))

abbrev pub TakesInScript : List OpenVolume → OpenVolume → Script → List ℕ → ℕ → Statement → Result State Fault → Type 0
TakesInScript below top script lines line statement.End taken = EndsScript below top script lines line taken
TakesInScript below top script lines line said taken = taken ≡ goes_on below top script lines line said

abbrev pub outside : State → Statement → Result State Cause
outside Begin said = begun said
outside (Filling below top) said = filled below top said
outside (Writing below top script lines) said = Err cause.InScript
outside (Done bytes) said = Err cause.BehindEnd

-- a statement more, at a line
abbrev pub Takes : State → ℕ → Statement → Result State Fault → Type 0
Takes (Writing below top script lines) line said taken = TakesInScript below top script lines line said taken
Takes state line said taken = taken ≡ at line (outside state said)

abbrev pub TakesRead : State → ℕ → Result Statement Cause → Result State Fault → Type 0
TakesRead state line (Ok said) taken = Takes state line said taken
TakesRead state line (Err cause) taken = taken ≡ Err (record { line = line; cause = cause })

-- behind a line more this is open, or this line is at fault
abbrev pub Steps : State → ℕ → List ℕ → Result State Fault → Type 0
Steps state number line taken = (read : Result Statement Cause) × Reads line read × TakesRead state number read taken

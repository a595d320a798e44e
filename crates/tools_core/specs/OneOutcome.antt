-- A command line and known file contents have one outcome, so each status is returned exactly when the words lead to it, with its text. Own.
use Rattle.std.specs.Prelude.{◌≡◌, ◌⊎◌, ℕ, List, Option, Some, None, ⊤}
use Rattle.std.specs.Io.KnownBytes.{Appends}
use Rattle.pi_base.specs.Field.{AreBytes}
use Rattle.tools_core.specs.{declared.status.ToolStatus.ToolStatus, declared.status.ToolStatus.TheVariants.FileFault}
use Rattle.tools_core.specs.Ends.{Kind, OfSink, OfMemory, OfText, kind_of}
use Rattle.tools_core.specs.Outcome.{Names, Outcome}

-- there is one status, and one text
abbrev pub IsOne : (ToolStatus → List ℕ → Type 0) → Type 0
IsOne Out = (a b : ToolStatus) (s t : List ℕ) → Out a s → Out b t → (a ≡ b) × (s ≡ t)

-- the known content is one of bytes
abbrev pub IsToldAsBytes : Option (List ℕ) → Type 0
IsToldAsBytes None = ⊥
IsToldAsBytes (Some content) = AreBytes content

-- the contents of the files with these names are known
abbrev pub AreAllTold : (List ℕ → Option (List ℕ)) → (List ℕ → Type 0) → Type 0
AreAllTold told Named = (name : List ℕ) → Named name → IsToldAsBytes (told name)

-- the contents of all files that are read are known
abbrev pub AreTold : (List ℕ → Option (List ℕ)) → List (List ℕ) → Type 0
AreTold told words = AreAllTold told (Names told words)

-- instead of an answer, the files or the sink failed, or memory ran out
abbrev pub IsStoppedBy : Kind → ToolStatus → Type 0
IsStoppedBy OfSink status = ⊤
IsStoppedBy OfMemory status = ⊤
IsStoppedBy OfText status = status ≡ FileFault

abbrev pub IsStopped : ToolStatus → Type 0
IsStopped status = IsStoppedBy (kind_of status) status

-- nothing is answered but the outcome of the words; if the contents of the files are known, that is answered, unless the files or the sink fail or memory runs
-- out
pub record AnswersExactly (told : List ℕ → Option (List ℕ)) (words : List (List ℕ)) (old new : Option (List ℕ)) (status : ToolStatus) : Type 0 where
  pub only : (IsStopped status → ⊥) → (text : List ℕ) × Outcome told words status text × Appends old new text
  pub whenever : AreTold told words → (due : ToolStatus) (text : List ℕ) → Outcome told words due text
      → ((status ≡ due) × Appends old new text) ⊎ IsStopped status

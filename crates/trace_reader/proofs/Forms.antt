-- A form for each variant of a line, and the form of a text.
use Rattle.std.proofs.Common.{◌≡◌, ◌++◌, ℕ, List, [], ◌∷◌, Option, Some, Bool, true, false, ◌&&◌, eqb, refl, sym, ap, ◌∙◌, flat_map, option_map, codes, find}
use Rattle.arrayvec.specs.declared.array_vec.ArrayVec.{ArrayVec}
use Rattle.pi_base.specs.{declared.guid.Guid.Guid, declared.word.Word.Word}
use Rattle.boot_plan.specs.declared.fault.PlanCause.{PlanCause}
use Rattle.mod_catalog.specs.declared.image_fault.ImageCause.{ImageCause}
use Rattle.boot_io.specs.Line.{spaced}
use Rattle.boot_model.specs.{declared.licence.Licence.Licence, declared.line.Line.Line, declared.line.CallName.CallName}
use Rattle.boot_model.specs.declared.line.Line.TheVariants as L
use Rattle.boot_model.specs.{declared.line.Extra.Extra, declared.line.Reason.Reason, declared.line.RunEnd.RunEnd}
use Rattle.boot_model.specs.{declared.line.ExpressionWord.ExpressionWord, Text.keyword, Text.words}

pub data Form : Type 0 where
  OfReport : Form
  OfDxeVolume : Form
  OfPeiStart : Form
  OfDxeStart : Form
  OfNotifyCallback : Form
  OfNotifyDispatch : Form
  OfNotifyProtocol : Form
  OfEnd : Form
  OfPeiStop : Form
  OfDxeStop : Form
  OfWaiting : Form
  OfHandoff : Form
  OfResult : Form
  OfMigrate : Form
  OfCoreInstall : Form
  OfPpis : Form
  OfCallbacks : Form
  OfDispatches : Form
  OfPendings : Form
  OfHobs : Form
  OfHandles : Form
  OfPpi : Form
  OfCallback : Form
  OfDispatch : Form
  OfPending : Form
  OfHandle : Form
  OfVolume : Form
  OfModule : Form
  OfRefusedUsage : Form
  OfRefusedPlan : Form
  OfRefusedImage : Form
  OfCall : Form
  OfLog : Form
  OfHob : Form
  OfRefusedFile : Form
  OfRefusedLong : Form

-- what varies in a form
abbrev pub Parts : Form → Type 0
Parts OfReport = ℕ
Parts OfDxeVolume = ℕ
Parts OfPeiStart = ℕ × Guid × Licence
Parts OfDxeStart = ℕ × Guid × Licence
Parts OfNotifyCallback = ℕ × Guid × Guid
Parts OfNotifyDispatch = ℕ × Guid × Guid
Parts OfNotifyProtocol = ℕ × Guid × Guid
Parts OfEnd = Word
Parts OfPeiStop = Unit {0}
Parts OfDxeStop = Unit {0}
Parts OfWaiting = ℕ × Guid × Reason
Parts OfHandoff = ℕ
Parts OfResult = RunEnd
Parts OfMigrate = ℕ × ℕ
Parts OfCoreInstall = Word
Parts OfPpis = ℕ
Parts OfCallbacks = ℕ
Parts OfDispatches = ℕ
Parts OfPendings = ℕ
Parts OfHobs = ℕ
Parts OfHandles = ℕ
Parts OfPpi = ℕ × Guid × ℕ
Parts OfCallback = Guid × ℕ × ℕ
Parts OfDispatch = Guid × ℕ × ℕ
Parts OfPending = Guid × ℕ × ℕ
Parts OfHandle = ℕ × Guid × ℕ
Parts OfVolume = ℕ × ℕ × ℕ × (Option Guid)
Parts OfModule = ℕ × ℕ × Guid × ℕ × (Option ℕ) × (Option ℕ) × ExpressionWord × ExpressionWord
Parts OfRefusedUsage = Unit {0}
Parts OfRefusedPlan = ℕ × PlanCause
Parts OfRefusedImage = ℕ × ℕ × ImageCause
Parts OfCall = CallName × Word × Extra
Parts OfLog = ArrayVec ℕ 64 (Unit {0})
Parts OfHob = ℕ × List ℕ
Parts OfRefusedFile = List ℕ
Parts OfRefusedLong = List ℕ

abbrev pub form : Line → Form
form (L.Report volume) = OfReport
form (L.DxeVolume volume) = OfDxeVolume
form (L.PeiStart volume name licence) = OfPeiStart
form (L.DxeStart volume name licence) = OfDxeStart
form (L.NotifyCallback volume name fired) = OfNotifyCallback
form (L.NotifyDispatch volume name fired) = OfNotifyDispatch
form (L.NotifyProtocol volume name fired) = OfNotifyProtocol
form (L.End status) = OfEnd
form L.PeiStop = OfPeiStop
form L.DxeStop = OfDxeStop
form (L.Waiting volume name reason) = OfWaiting
form (L.Handoff address) = OfHandoff
form (L.Result outcome) = OfResult
form (L.Migrate from to) = OfMigrate
form (L.CoreInstall status) = OfCoreInstall
form (L.Ppis count) = OfPpis
form (L.Callbacks count) = OfCallbacks
form (L.Dispatches count) = OfDispatches
form (L.Pendings count) = OfPendings
form (L.Hobs count) = OfHobs
form (L.Handles count) = OfHandles
form (L.Ppi by guid value) = OfPpi
form (L.Callback guid by block) = OfCallback
form (L.Dispatch guid by block) = OfDispatch
form (L.Pending guid by block) = OfPending
form (L.Handle handle guid value) = OfHandle
form (L.Volume volume base len name) = OfVolume
form (L.Module by volume name kind pei_rank dxe_rank pei dxe) = OfModule
form L.RefusedUsage = OfRefusedUsage
form (L.RefusedPlan line cause) = OfRefusedPlan
form (L.RefusedImage volume at cause) = OfRefusedImage
form (L.Call name status extra) = OfCall
form (L.Log text) = OfLog
form (L.Hob kind body) = OfHob
form (L.RefusedFile name) = OfRefusedFile
form (L.RefusedLong name) = OfRefusedLong

abbrev pub parts : (line : Line) → Parts (form line)
parts (L.Report volume) = volume
parts (L.DxeVolume volume) = volume
parts (L.PeiStart volume name licence) = (volume, name, licence)
parts (L.DxeStart volume name licence) = (volume, name, licence)
parts (L.NotifyCallback volume name fired) = (volume, name, fired)
parts (L.NotifyDispatch volume name fired) = (volume, name, fired)
parts (L.NotifyProtocol volume name fired) = (volume, name, fired)
parts (L.End status) = status
parts L.PeiStop = tt
parts L.DxeStop = tt
parts (L.Waiting volume name reason) = (volume, name, reason)
parts (L.Handoff address) = address
parts (L.Result outcome) = outcome
parts (L.Migrate from to) = (from, to)
parts (L.CoreInstall status) = status
parts (L.Ppis count) = count
parts (L.Callbacks count) = count
parts (L.Dispatches count) = count
parts (L.Pendings count) = count
parts (L.Hobs count) = count
parts (L.Handles count) = count
parts (L.Ppi by guid value) = (by, guid, value)
parts (L.Callback guid by block) = (guid, by, block)
parts (L.Dispatch guid by block) = (guid, by, block)
parts (L.Pending guid by block) = (guid, by, block)
parts (L.Handle handle guid value) = (handle, guid, value)
parts (L.Volume volume base len name) = (volume, base, len, name)
parts (L.Module by volume name kind pei_rank dxe_rank pei dxe) = (by, volume, name, kind, pei_rank, dxe_rank, pei, dxe)
parts L.RefusedUsage = tt
parts (L.RefusedPlan line cause) = (line, cause)
parts (L.RefusedImage volume at cause) = (volume, at, cause)
parts (L.Call name status extra) = (name, status, extra)
parts (L.Log text) = text
parts (L.Hob kind body) = (kind, body)
parts (L.RefusedFile name) = name
parts (L.RefusedLong name) = name

abbrev pub made : (of : Form) → Parts of → Line
made OfReport p = L.Report p
made OfDxeVolume p = L.DxeVolume p
made OfPeiStart p = L.PeiStart p.0 p.1 p.2
made OfDxeStart p = L.DxeStart p.0 p.1 p.2
made OfNotifyCallback p = L.NotifyCallback p.0 p.1 p.2
made OfNotifyDispatch p = L.NotifyDispatch p.0 p.1 p.2
made OfNotifyProtocol p = L.NotifyProtocol p.0 p.1 p.2
made OfEnd p = L.End p
made OfPeiStop p = L.PeiStop
made OfDxeStop p = L.DxeStop
made OfWaiting p = L.Waiting p.0 p.1 p.2
made OfHandoff p = L.Handoff p
made OfResult p = L.Result p
made OfMigrate p = L.Migrate p.0 p.1
made OfCoreInstall p = L.CoreInstall p
made OfPpis p = L.Ppis p
made OfCallbacks p = L.Callbacks p
made OfDispatches p = L.Dispatches p
made OfPendings p = L.Pendings p
made OfHobs p = L.Hobs p
made OfHandles p = L.Handles p
made OfPpi p = L.Ppi p.0 p.1 p.2
made OfCallback p = L.Callback p.0 p.1 p.2
made OfDispatch p = L.Dispatch p.0 p.1 p.2
made OfPending p = L.Pending p.0 p.1 p.2
made OfHandle p = L.Handle p.0 p.1 p.2
made OfVolume p = L.Volume p.0 p.1 p.2 p.3
made OfModule p = L.Module p.0 p.1 p.2 p.3 p.4 p.5 p.6 p.7
made OfRefusedUsage p = L.RefusedUsage
made OfRefusedPlan p = L.RefusedPlan p.0 p.1
made OfRefusedImage p = L.RefusedImage p.0 p.1 p.2
made OfCall p = L.Call p.0 p.1 p.2
made OfLog p = L.Log p
made OfHob p = L.Hob p.0 p.1
made OfRefusedFile p = L.RefusedFile p
made OfRefusedLong p = L.RefusedLong p

pub made_back : (line : Line) → made (form line) (parts line) ≡ line
made_back (L.Report volume) = refl
made_back _ = refl

-- whether a text begins with a keyword, and then ends or goes on with a space
abbrev begins : List ℕ → List ℕ → Bool
begins [] [] = true
begins [] (byte ∷ text) = eqb byte 32
begins (first ∷ keyword) [] = false
begins (first ∷ keyword) (byte ∷ text) = eqb first byte && begins keyword text

abbrev keywords : List (List ℕ × Form)
keywords = (codes "report", OfReport) ∷ (codes "dxe volume", OfDxeVolume) ∷ (codes "pei start", OfPeiStart) ∷ (codes "dxe start", OfDxeStart) ∷ (codes "notify callback", OfNotifyCallback) ∷ (codes "notify dispatch", OfNotifyDispatch) ∷ (codes "notify protocol", OfNotifyProtocol) ∷ (codes "end", OfEnd) ∷ (codes "pei stop", OfPeiStop) ∷ (codes "dxe stop", OfDxeStop) ∷ (codes "waiting", OfWaiting) ∷ (codes "handoff", OfHandoff) ∷ (codes "result", OfResult) ∷ (codes "migrate", OfMigrate) ∷ (codes "core install", OfCoreInstall) ∷ (codes "ppis", OfPpis) ∷ (codes "callbacks", OfCallbacks) ∷ (codes "dispatches", OfDispatches) ∷ (codes "pendings", OfPendings) ∷ (codes "hobs", OfHobs) ∷ (codes "handles", OfHandles) ∷ (codes "ppi", OfPpi) ∷ (codes "callback", OfCallback) ∷ (codes "dispatch", OfDispatch) ∷ (codes "pending", OfPending) ∷ (codes "handle", OfHandle) ∷ (codes "volume", OfVolume) ∷ (codes "module", OfModule) ∷ (codes "refused usage", OfRefusedUsage) ∷ (codes "refused plan", OfRefusedPlan) ∷ (codes "refused image", OfRefusedImage) ∷ (codes "call", OfCall) ∷ (codes "log", OfLog) ∷ (codes "hob", OfHob) ∷ (codes "refused file", OfRefusedFile) ∷ (codes "refused long", OfRefusedLong) ∷ []

abbrev form_of : List ℕ → Option Form
form_of text = option_map (λ pair. pair.1) (find (λ pair. begins pair.0 text) keywords)

form_back : (line : Line) → form_of (keyword line ++ flat_map spaced (words line)) ≡ Some (form line)
unfolding keyword
form_back (L.Report volume) = refl
form_back _ = refl

some_form : (a b : Form) → Some a ≡ Some b → a ≡ b
some_form a b is = cc

pub form_one : (a b : Line) → keyword a ++ flat_map spaced (words a) ≡ keyword b ++ flat_map spaced (words b) → form a ≡ form b
form_one a b is = some_form (form a) (form b) (sym (form_back a) ∙ ap form_of is ∙ form_back b)

-- The fixed words of lines are plain, and each is one value's.
use Rattle.std.proofs.Common.{◌≡◌, refl, sym, ap, ◌∙◌, ℕ, suc, arith, cond, Bool, true, false, List, [], ◌∷◌, Option, Some, None, Contains, find, bytes_eq}
use Rattle.boot_trace.specs.FixedWords.{IsPlain}
use Rattle.pi_base.specs.{WordText.word_text, declared.word.Word.Word}
use Rattle.boot_model.specs.Text.{licence_text, call_text, reason_text, end_text, plan_cause_text, image_cause_text}
use Rattle.pi_base.specs.declared.word.Word.TheVariants as W
use Rattle.boot_model.specs.{declared.licence.Licence.Licence, declared.line.CallName.CallName, declared.line.Reason.Reason}
use Rattle.boot_model.specs.declared.licence.Licence.TheVariants as G
use Rattle.boot_model.specs.declared.line.CallName.TheVariants as C
use Rattle.boot_model.specs.declared.line.Reason.TheVariants as R
use Rattle.boot_model.specs.declared.line.RunEnd.{RunEnd}
use Rattle.boot_model.specs.declared.line.RunEnd.TheVariants as X
use Rattle.boot_plan.specs.declared.fault.PlanCause.{PlanCause}
use Rattle.boot_plan.specs.declared.fault.PlanCause.TheVariants as P
use Rattle.mod_catalog.specs.declared.image_fault.ImageCause.{ImageCause}
use Rattle.mod_catalog.specs.declared.image_fault.ImageCause.TheVariants as I

some_one : {A : Type 0} (a b : A) → Some a ≡ Some b → a ≡ b
some_one a b is = cc

-- what is found in a list is one of it
in_more : {A : Type 0} (found : Bool) (first value : A) (rest : List A) (later : Option A) → cond found (Some first) later ≡ Some value → (later ≡ Some value → Contains rest value) → Contains (first ∷ rest) value
in_more true first value rest later is behind = (0, omega arith, some_one first value is)
in_more false first value rest later is behind = let there = behind is in (suc there.0, omega (arith, there.1), there.2)

in_list : {A : Type 0} (test : A → Bool) (values : List A) (value : A) → find test values ≡ Some value → Contains values value
in_list test [] value is = let never : None ≡ Some value = is in absurd (cc)
in_list test (first ∷ rest) value is = in_more (test first) first value rest (find test rest) is (in_list test rest value)

pub word_text_plain : (value : Word) → IsPlain (word_text value)
unfolding word_text
word_text_plain W.Success = refl
word_text_plain _ = refl

abbrev pub word_text_all : List Word
word_text_all = W.Success ∷ W.InvalidParameter ∷ W.NotFound ∷ W.OutOfResources ∷ W.NotAvailableYet ∷ W.AlreadyStarted ∷ W.AccessDenied ∷ []

abbrev word_text_of : List ℕ → Option Word
word_text_of word = find (λ value. bytes_eq (word_text value) word) word_text_all

word_text_back : (value : Word) → word_text_of (word_text value) ≡ Some value
unfolding word_text
word_text_back W.Success = refl
word_text_back _ = refl

pub word_text_each : (value : Word) → Contains word_text_all value
word_text_each value = in_list (λ other. bytes_eq (word_text other) (word_text value)) word_text_all value (word_text_back value)

pub word_text_one : (a b : Word) → word_text a ≡ word_text b → a ≡ b
word_text_one a b is = some_one a b (sym (word_text_back a) ∙ ap word_text_of is ∙ word_text_back b)

pub licence_text_plain : (value : Licence) → IsPlain (licence_text value)
unfolding licence_text
licence_text_plain G.Apriori = refl
licence_text_plain _ = refl

abbrev pub licence_text_all : List Licence
licence_text_all = G.Apriori ∷ G.Absent ∷ G.True ∷ G.Shadow ∷ G.Before ∷ G.After ∷ []

abbrev licence_text_of : List ℕ → Option Licence
licence_text_of word = find (λ value. bytes_eq (licence_text value) word) licence_text_all

licence_text_back : (value : Licence) → licence_text_of (licence_text value) ≡ Some value
unfolding licence_text
licence_text_back G.Apriori = refl
licence_text_back _ = refl

pub licence_text_each : (value : Licence) → Contains licence_text_all value
licence_text_each value = in_list (λ other. bytes_eq (licence_text other) (licence_text value)) licence_text_all value (licence_text_back value)

pub licence_text_one : (a b : Licence) → licence_text a ≡ licence_text b → a ≡ b
licence_text_one a b is = some_one a b (sym (licence_text_back a) ∙ ap licence_text_of is ∙ licence_text_back b)

pub call_text_plain : (value : CallName) → IsPlain (call_text value)
unfolding call_text
call_text_plain C.Pool = refl
call_text_plain _ = refl

abbrev pub call_text_all : List CallName
call_text_all = C.Pool ∷ C.Store ∷ C.Peek ∷ C.Desc ∷ C.Install ∷ C.Reinstall ∷ C.Notify ∷ C.Locate ∷ C.Hob ∷ C.Memory ∷ C.Pages ∷ C.BootMode ∷ C.Shadow ∷ C.Uninstall ∷ C.Schedule ∷ C.Process ∷ C.Dispatch ∷ []

abbrev call_text_of : List ℕ → Option CallName
call_text_of word = find (λ value. bytes_eq (call_text value) word) call_text_all

call_text_back : (value : CallName) → call_text_of (call_text value) ≡ Some value
unfolding call_text
call_text_back C.Pool = refl
call_text_back _ = refl

pub call_text_each : (value : CallName) → Contains call_text_all value
call_text_each value = in_list (λ other. bytes_eq (call_text other) (call_text value)) call_text_all value (call_text_back value)

pub call_text_one : (a b : CallName) → call_text a ≡ call_text b → a ≡ b
call_text_one a b is = some_one a b (sym (call_text_back a) ∙ ap call_text_of is ∙ call_text_back b)

pub reason_text_plain : (value : Reason) → IsPlain (reason_text value)
unfolding reason_text
reason_text_plain R.Malformed = refl
reason_text_plain _ = refl

abbrev pub reason_text_all : List Reason
reason_text_all = R.Malformed ∷ R.False ∷ R.Shadow ∷ R.Unrequested ∷ R.Before ∷ R.After ∷ R.Absent ∷ []

abbrev reason_text_of : List ℕ → Option Reason
reason_text_of word = find (λ value. bytes_eq (reason_text value) word) reason_text_all

reason_text_back : (value : Reason) → reason_text_of (reason_text value) ≡ Some value
unfolding reason_text
reason_text_back R.Malformed = refl
reason_text_back _ = refl

pub reason_text_each : (value : Reason) → Contains reason_text_all value
reason_text_each value = in_list (λ other. bytes_eq (reason_text other) (reason_text value)) reason_text_all value (reason_text_back value)

pub reason_text_one : (a b : Reason) → reason_text a ≡ reason_text b → a ≡ b
reason_text_one a b is = some_one a b (sym (reason_text_back a) ∙ ap reason_text_of is ∙ reason_text_back b)

pub end_text_plain : (value : RunEnd) → IsPlain (end_text value)
unfolding end_text
end_text_plain X.Done = refl
end_text_plain _ = refl

abbrev pub end_text_all : List RunEnd
end_text_all = X.Done ∷ X.NoMemory ∷ X.NoIpl ∷ X.Spent ∷ X.Deep ∷ []

abbrev end_text_of : List ℕ → Option RunEnd
end_text_of word = find (λ value. bytes_eq (end_text value) word) end_text_all

end_text_back : (value : RunEnd) → end_text_of (end_text value) ≡ Some value
unfolding end_text
end_text_back X.Done = refl
end_text_back _ = refl

pub end_text_each : (value : RunEnd) → Contains end_text_all value
end_text_each value = in_list (λ other. bytes_eq (end_text other) (end_text value)) end_text_all value (end_text_back value)

pub end_text_one : (a b : RunEnd) → end_text a ≡ end_text b → a ≡ b
end_text_one a b is = some_one a b (sym (end_text_back a) ∙ ap end_text_of is ∙ end_text_back b)

pub plan_cause_text_plain : (value : PlanCause) → IsPlain (plan_cause_text value)
unfolding plan_cause_text
plan_cause_text_plain P.Word = refl
plan_cause_text_plain _ = refl

abbrev pub plan_cause_text_all : List PlanCause
plan_cause_text_all = P.Word ∷ P.Number ∷ P.Missing ∷ P.Twice ∷ P.Overlap ∷ P.Limit ∷ P.Room ∷ P.Memory ∷ []

abbrev plan_cause_text_of : List ℕ → Option PlanCause
plan_cause_text_of word = find (λ value. bytes_eq (plan_cause_text value) word) plan_cause_text_all

plan_cause_text_back : (value : PlanCause) → plan_cause_text_of (plan_cause_text value) ≡ Some value
unfolding plan_cause_text
plan_cause_text_back P.Word = refl
plan_cause_text_back _ = refl

pub plan_cause_text_each : (value : PlanCause) → Contains plan_cause_text_all value
plan_cause_text_each value = in_list (λ other. bytes_eq (plan_cause_text other) (plan_cause_text value)) plan_cause_text_all value (plan_cause_text_back value)

pub plan_cause_text_one : (a b : PlanCause) → plan_cause_text a ≡ plan_cause_text b → a ≡ b
plan_cause_text_one a b is = some_one a b (sym (plan_cause_text_back a) ∙ ap plan_cause_text_of is ∙ plan_cause_text_back b)

pub image_cause_text_plain : (value : ImageCause) → IsPlain (image_cause_text value)
unfolding image_cause_text
image_cause_text_plain I.Short = refl
image_cause_text_plain _ = refl

abbrev pub image_cause_text_all : List ImageCause
image_cause_text_all = I.Short ∷ I.Signature ∷ I.Revision ∷ I.FileSystem ∷ I.Length ∷ I.HeaderLength ∷ I.HeaderSum ∷ I.ExtHeader ∷ I.FileSum ∷ I.FileSize ∷ I.DataSum ∷ I.TooManyFiles ∷ I.Size ∷ I.Compressed ∷ I.GuidDefined ∷ I.TooMany ∷ I.Magic ∷ I.Version ∷ I.Phase ∷ I.Count ∷ I.Block ∷ I.Action ∷ I.Jump ∷ I.Index ∷ I.Nesting ∷ I.TooManyModules ∷ I.Place ∷ I.TooManyVolumes ∷ I.ScriptTotal ∷ I.Memory ∷ []

abbrev image_cause_text_of : List ℕ → Option ImageCause
image_cause_text_of word = find (λ value. bytes_eq (image_cause_text value) word) image_cause_text_all

image_cause_text_back : (value : ImageCause) → image_cause_text_of (image_cause_text value) ≡ Some value
unfolding image_cause_text
image_cause_text_back I.Short = refl
image_cause_text_back _ = refl

pub image_cause_text_each : (value : ImageCause) → Contains image_cause_text_all value
image_cause_text_each value = in_list (λ other. bytes_eq (image_cause_text other) (image_cause_text value)) image_cause_text_all value (image_cause_text_back value)

pub image_cause_text_one : (a b : ImageCause) → image_cause_text a ≡ image_cause_text b → a ≡ b
image_cause_text_one a b is = some_one a b (sym (image_cause_text_back a) ∙ ap image_cause_text_of is ∙ image_cause_text_back b)

-- Want of memory, from the boot of images up to the words.
use Rattle.std.proofs.Common.{◌≡◌, ◌⊎◌, ℕ, List, [], Option, inl, inr, subst}
use Rattle.std.specs.{Prelude.⊤, Io.KnownBytes.Appends}
use Rattle.boot_plan.specs.declared.plan.Plan.{Plan}
use Rattle.mod_catalog.specs.{declared.catalogue.Catalog.Catalog, Catalogue.IsCatalogue}
use Rattle.boot_model.specs.PlanBoard.{board_of}
use Rattle.boot_trace.specs.Printing.{Texts}
use Rattle.boot_core.specs.{declared.plan_files.job.Job.Job, Job.IsJob, declared.command_line.Command.Command}
use Rattle.boot_core.specs.declared.command_line.Command.TheVariants.{Boot, Audit}
use Rattle.boot_core.specs.{declared.deciding.Asked.Asked, declared.status.Status.Status, declared.status.Status.TheVariants.Memory}
use Rattle.boot_core.specs.{CommandLine.AskFor, Wanting.IsWantedOutsidePeiOf, FirstBoot.IsOutsidePei}
use Rattle.boot_core.specs.Deciding.{IsAsked, asked_of, job_asked, number_asked}
use Rattle.boot_core.specs.Outcome.{Begun, CommandOutcome, Ends, ImagesOutcome, IsOfRun, NoMemory, Trail, image_refused, images_sound, kind_of}
use Rattle.boot_core.specs.WantOfMemory.{IsPeiPut, IsWantedIn, IsWantedOutside}

-- the texts that a call left
abbrev pub texts_of : Trail → Texts
texts_of t = record { old = t.old; new = t.new }

-- outside PEI by one catalogue
outside : (plan : Plan) (images : List (List ℕ)) (catalog : Catalog) (t : Texts) → IsCatalogue plan images catalog → IsOutsidePei (board_of plan catalog images) catalog plan.fuel t
    → Appends t.old t.new [] ⊎ IsPeiPut plan images t
outside plan images catalog t sound (inl none) = inl none
outside plan images catalog t sound (inr put) = inr (record { catalog = catalog; sound = sound; part = put.0; put = put.1 })

-- a run that had begun is one of a catalogue
ran : (plan : Plan) (images : List (List ℕ)) (t : Texts) (status : Status) (text : List ℕ) → IsOfRun status → ImagesOutcome (CommandOutcome Boot plan images) plan images status text
    → ((catalog : Catalog) → IsCatalogue plan images catalog → IsOutsidePei (board_of plan catalog images) catalog plan.fuel t) → Appends t.old t.new [] ⊎ IsPeiPut plan images t
ran plan images t status text run (image_refused fault is refused told) wants = absurd (subst IsOfRun refused run)
ran plan images t status text run (images_sound catalog sound leads) wants = outside plan images catalog t sound (wants catalog sound)

begun : (plan : Plan) (images : List (List ℕ)) (old new : Option (List ℕ)) → Appends old new [] ⊎ Begun (ImagesOutcome (CommandOutcome Boot plan images) plan images) ⊤ old new
    → ((catalog : Catalog) → IsCatalogue plan images catalog → IsOutsidePei (board_of plan catalog images) catalog plan.fuel (record { old = old; new = new }))
    → Appends old new [] ⊎ IsPeiPut plan images (record { old = old; new = new })
begun plan images old new (inl none) wants = inl none
begun plan images old new (inr b) wants = ran plan images (record { old = old; new = new }) b.status b.text b.ran b.outcome wants

-- a boot of images
pub wanted_in_boot : (plan : Plan) (images : List (List ℕ)) (status : Status) (t : Trail) → Ends (ImagesOutcome (CommandOutcome Boot plan images) plan images) (λ _. ⊥) ⊤ status t
    → IsWantedOutsidePeiOf (kind_of status) plan images (texts_of t) → status ≡ Memory → Appends t.old t.new [] ⊎ IsPeiPut plan images (texts_of t)
wanted_in_boot plan images status t ends wants is =
    let Out = ImagesOutcome (CommandOutcome Boot plan images) plan images in
    let P : Status → Type 0 = λ s. Ends Out (λ _. ⊥) ⊤ s t in
    let Q : Status → Type 0 = λ s. IsWantedOutsidePeiOf (kind_of s) plan images (texts_of t) in
    let wanting : NoMemory Out ⊤ t = subst P is ends in
    begun plan images t.old t.new wanting.kept (subst Q is wants)

-- a job that the words ask for
of_command : (told : List ℕ → Option (List ℕ)) (words : List (List ℕ)) (t : Texts) (command : Command) (name : List ℕ) (job : Job) → AskFor words command name → IsJob told name job
    → IsWantedIn (asked_of command job) t → IsWantedOutside told words t
of_command told words t Boot name job asks is (inl none) = inl none
of_command told words t Boot name job asks is (inr put) = inr (record { name = name; asked = asks; job = job; is = is; pei = put })
of_command told words t Audit name job asks is none = inl none

-- what the words ask for
pub wanted_of : (told : List ℕ → Option (List ℕ)) (words : List (List ℕ)) (t : Texts) (asked : Asked) → IsAsked told words asked → IsWantedIn asked t → IsWantedOutside told words t
wanted_of told words t asked (job_asked command name asks job is e) wants = of_command told words t command name job asks is (subst (λ a. IsWantedIn a t) e wants)
wanted_of told words t asked (number_asked n asks e) wants = inl (subst (λ a. IsWantedIn a t) e wants)

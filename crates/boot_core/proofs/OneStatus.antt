-- Told files lead to one status.
use Rattle.std.proofs.Common.{◌≡◌, ◌⊎◌, ℕ, List, [], ◌∷◌, ◌++◌, length, Option, Some, None, IsSome, refl, sym, ap, ◌∙◌, arith, subst, inl, inr, true≢false}
use Rattle.boot_io.specs.Files.{IsTold}
use Rattle.boot_plan.specs.{declared.plan.Plan.Plan, declared.plan.PlanVolume.PlanVolume, declared.fault.PlanFault.PlanFault}
use Rattle.boot_plan.specs.PlanText.{IsPlan, IsPlanFault}
use Rattle.mod_catalog.specs.{declared.catalogue.Catalog.Catalog, declared.image_fault.ImageFault.ImageFault, Catalogue.IsCatalogue}
use Rattle.mod_catalog.specs.ImageFault.{IsImageFault}
use Rattle.boot_model.specs.{PlanBoard.board_of, declared.line.Line.Line, declared.line.RunEnd.RunEnd}
use Rattle.boot_core.specs.{declared.plan_files.job.Job.Job, declared.status.Status.Status, declared.command_line.Command.Command}
use Rattle.boot_core.specs.Job.{IsJob, IsRefusal, plan_long, plan_refused, volume_long}
use Rattle.boot_core.specs.Reading.{IsRead, IsLong, IsLongVolume, AreImages}
use Rattle.boot_core.specs.declared.command_line.Command.TheVariants.{Boot, Audit}
use Rattle.boot_core.specs.{declared.deciding.Asked.Asked, Refusing.refusal_status, declared.generated.TheConstants.FUEL, BootEnd.status_of}
use Rattle.boot_core.specs.declared.deciding.Asked.TheVariants as A
use Rattle.boot_core.specs.CommandLine.{AskFor, AskForGenerated, verb_of}
use Rattle.boot_core.specs.Deciding.{IsAsked, IsRefused, asked_of, job_asked, number_asked, words_refused, job_refused}
use Rattle.boot_core.specs.Outcome.{Outcome, AskedOutcome, ImagesOutcome, CommandOutcome, Trail, Kind, OfFiles, OfSink, OfMemory, OfAnswer, Ends, EndsBy, Answered, kind_of, refusal_told, asked_done, image_refused, images_sound, BootOutcome}
use Rattle.boot_core.specs.GeneratedOutcome.{GeneratedOutcome, SummaryOutcome, generated_board, generated_images, generated_plan}
use Rattle.std.proofs.lemmas.Fmt.{decimal_injective}
use Rattle.boot_core.specs.WholeEnd.{end_of}
use Rattle.boot_core.specs.Causes.{AreTold, IsToldAsBytes, IsVolumeName, TextNames, LeadsTo, IsStopped, ComesExactly}
use Rattle.pi_base.specs.{Lists.Each, Field.AreBytes}

-- the laws of plans and images: a text has one plan, and never a fault beside it; images have one catalogue, and never a fault beside it
pub record Laws : Type 0 where
  pub plans : (text : List ℕ) (a b : Plan) → IsPlan text a → IsPlan text b → a ≡ b
  pub plan_or_fault : (text : List ℕ) (plan : Plan) (fault : PlanFault) → IsPlan text plan → IsPlanFault text fault → ⊥
  pub catalogues : (plan : Plan) (images : List (List ℕ)) (a b : Catalog) → IsCatalogue plan images a → IsCatalogue plan images b → a ≡ b
  pub catalogue_or_fault : (plan : Plan) (images : List (List ℕ)) (catalog : Catalog) (fault : ImageFault) → Each AreBytes images → IsCatalogue plan images catalog → IsImageFault plan images fault → ⊥

-- a told content is one
one_content : (told : Option (List ℕ)) → IsSome told → (c d : List ℕ) → IsTold told c → IsTold told d → c ≡ d
one_content None some c d p q = absurd (true≢false (sym some))
one_content (Some x) some c d p q = sym p ∙ q

-- it is not both within a limit and over it
within_or_over : (told : Option (List ℕ)) (limit : ℕ) → IsSome told → (c d : List ℕ) → IsLong told limit c → IsRead told limit d → ⊥
within_or_over told limit some c d long read =
    let same : length c ≡ length d = ap length (one_content told some c d long.as_told read.as_told) in
    omega (arith, same, long.over, read.within)

-- the files of some volumes are told
abbrev pub VolumesTold : (List ℕ → Option (List ℕ)) → List PlanVolume → Type 0
VolumesTold told volumes = (name : List ℕ) → IsVolumeName volumes name → IsToldAsBytes (told name)

name_behind : (volume : PlanVolume) (volumes : List PlanVolume) (name : List ℕ) → IsVolumeName volumes name → IsVolumeName (volume ∷ volumes) name
name_behind volume volumes name o = record { before = volume ∷ o.before; volume = o.volume; behind = o.behind; these = ap (λ vs. volume ∷ vs) o.these; is = o.is }

first_told : (told : List ℕ → Option (List ℕ)) (volume : PlanVolume) (volumes : List PlanVolume) → VolumesTold told (volume ∷ volumes) → IsToldAsBytes (told volume.name)
first_told told volume volumes all = all volume.name (record { before = []; volume = volume; behind = volumes; these = refl; is = refl })

some_told : (told : Option (List ℕ)) → IsToldAsBytes told → IsSome told
some_told None none = absurd none
some_told (Some content) are = refl

told_bytes : (told : Option (List ℕ)) → IsToldAsBytes told → (content : List ℕ) → IsTold told content → AreBytes content
told_bytes None none content is = absurd none
told_bytes (Some told) are content is = subst AreBytes is are

-- told images are of bytes
images_bytes : (told : List ℕ → Option (List ℕ)) (volumes : List PlanVolume) → VolumesTold told volumes → (images : List (List ℕ)) → AreImages told volumes images → Each AreBytes images
images_bytes told [] all [] read = tt
images_bytes told [] all (image ∷ images) read = absurd read
images_bytes told (volume ∷ volumes) all [] read = absurd read
images_bytes told (volume ∷ volumes) all (image ∷ images) read =
    (told_bytes (told volume.name) (first_told told volume volumes all) image read.0.as_told, images_bytes told volumes (λ n o. all n (name_behind volume volumes n o)) images read.1)

-- told files have one list of images
one_images : (told : List ℕ → Option (List ℕ)) (volumes : List PlanVolume) → VolumesTold told volumes → (a b : List (List ℕ)) → AreImages told volumes a → AreImages told volumes b → a ≡ b
one_images told [] all [] [] p q = refl
one_images told [] all [] (y ∷ b) p q = absurd q
one_images told [] all (x ∷ a) b p q = absurd p
one_images told (volume ∷ volumes) all [] b p q = absurd p
one_images told (volume ∷ volumes) all (x ∷ a) [] p q = absurd q
one_images told (volume ∷ volumes) all (x ∷ a) (y ∷ b) p q =
    let first : x ≡ y = one_content (told volume.name) (some_told (told volume.name) (first_told told volume volumes all)) x y p.0.as_told q.0.as_told in
    let rest : a ≡ b = one_images told volumes (λ n o. all n (name_behind volume volumes n o)) a b p.1 q.1 in
    ap (λ z. z ∷ a) first ∙ ap (λ zs. y ∷ zs) rest

-- and no file that is too long among them
images_or_long : (told : List ℕ → Option (List ℕ)) (before : List PlanVolume) (volume : PlanVolume) (behind : List PlanVolume) → IsSome (told volume.name) → (content : List ℕ) → IsLong (told volume.name) 0x4000000 content
    → (images : List (List ℕ)) → AreImages told (before ++ volume ∷ behind) images → ⊥
images_or_long told [] volume behind some content long [] read = read
images_or_long told [] volume behind some content long (image ∷ images) read = within_or_over (told volume.name) 0x4000000 some content image long read.0
images_or_long told (first ∷ before) volume behind some content long [] read = read
images_or_long told (first ∷ before) volume behind some content long (image ∷ images) read = images_or_long told before volume behind some content long images read.1

-- a boot has one result
one_end : (found : Option RunEnd) (a b : RunEnd) → found ≡ Some a → found ≡ Some b → a ≡ b
one_end found a b p q = ap (end_in a) (sym p ∙ q)
  where
    end_in : RunEnd → Option RunEnd → RunEnd
    end_in other None = other
    end_in other (Some end) = end

status_of_boot : (plan : Plan) (catalog : Catalog) (images : List (List ℕ)) (a b : Status) (s t : List ℕ) → BootOutcome plan catalog images a s → BootOutcome plan catalog images b t → a ≡ b
status_of_boot plan catalog images a b s t one other =
    one.status_is ∙ ap status_of (one_end (end_of (board_of plan catalog images) catalog plan.fuel) one.end other.end one.ended other.ended) ∙ sym other.status_is

status_of_command : (command : Command) (plan : Plan) (images : List (List ℕ)) (catalog : Catalog) (a b : Status) (s t : List ℕ) → CommandOutcome command plan images catalog a s → CommandOutcome command plan images catalog b t → a ≡ b
status_of_command Boot plan images catalog a b s t one other = status_of_boot plan catalog images a b s t one other
status_of_command Audit plan images catalog a b s t one other = one.status_is ∙ sym other.status_is

-- a catalogue leads to one status
abbrev LeadsToOne : (Catalog → Status → List ℕ → Type 0) → Type 0
LeadsToOne Leads = (catalog : Catalog) (a b : Status) (s t : List ℕ) → Leads catalog a s → Leads catalog b t → a ≡ b

status_of_images : Laws → (Leads : Catalog → Status → List ℕ → Type 0) (plan : Plan) (images : List (List ℕ)) → LeadsToOne Leads → Each AreBytes images → (a b : Status) (s t : List ℕ)
    → ImagesOutcome Leads plan images a s → ImagesOutcome Leads plan images b t → a ≡ b
status_of_images laws Leads plan images one are a b s t (image_refused f is p x) (image_refused g also q y) = p ∙ sym q
status_of_images laws Leads plan images one are a b s t (image_refused f is p x) (images_sound c sound o) = absurd (laws.catalogue_or_fault plan images c f are sound is)
status_of_images laws Leads plan images one are a b s t (images_sound c sound o) (image_refused f is q y) = absurd (laws.catalogue_or_fault plan images c f are sound is)
status_of_images laws Leads plan images one are a b s t (images_sound c sound o) (images_sound d also u) =
    let P : Catalog → Type 0 = λ x. Leads x b t in
    one c a b s t o (subst P (laws.catalogues plan images d c also sound) u)

-- a volume's file that is too long has no image
long_told : (told : List ℕ → Option (List ℕ)) (volumes : List PlanVolume) (line : Line) → VolumesTold told volumes → IsLongVolume told volumes line → (images : List (List ℕ)) → AreImages told volumes images → ⊥
long_told told volumes line all o images read =
    let r = o.reached in
    let some = some_told (told o.volume.name) (all o.volume.name (record { before = r.before; volume = o.volume; behind = r.behind; these = r.these; is = refl })) in
    let P : List PlanVolume → Type 0 = λ vs. AreImages told vs images in
    images_or_long told r.before o.volume r.behind some o.long.content o.long.long images (subst P r.these read)

-- the files that a told plan's text names are told
abbrev pub PlanTold : (List ℕ → Option (List ℕ)) → List ℕ → Type 0
PlanTold told plan = (content name : List ℕ) → IsTold (told plan) content → TextNames content name → IsToldAsBytes (told name)

-- those of a job's volumes
volumes_told : (told : List ℕ → Option (List ℕ)) (name : List ℕ) → PlanTold told name → (job : Job) → IsJob told name job → VolumesTold told job.plan.volumes
volumes_told told name all job is = λ n names. all is.content n is.read.as_told (job.plan, is.plan_is, names)

-- so its images are of bytes
pub job_bytes : (told : List ℕ → Option (List ℕ)) (name : List ℕ) → PlanTold told name → (job : Job) → IsJob told name job → Each AreBytes job.images
job_bytes told name all job is = images_bytes told job.plan.volumes (volumes_told told name all job is) job.images is.images_are

-- a told plan has one job
pub one_job : Laws → (told : List ℕ → Option (List ℕ)) (name : List ℕ) → IsSome (told name) → PlanTold told name → (a b : Job) → IsJob told name a → IsJob told name b → a ≡ b
one_job laws told name some all a b p q =
    let content : p.content ≡ q.content = one_content (told name) some p.content q.content p.read.as_told q.read.as_told in
    let plan : a.plan ≡ b.plan = laws.plans q.content a.plan b.plan (subst (λ c. IsPlan c a.plan) content p.plan_is) q.plan_is in
    let read : AreImages told b.plan.volumes a.images = subst (λ x. AreImages told x.volumes a.images) plan p.images_are in
    let images : a.images ≡ b.images = one_images told b.plan.volumes (volumes_told told name all b q) a.images b.images read q.images_are in
    let with_plan : Plan → Job = λ x. record { plan = x; images = a.images } in
    let with_images : List (List ℕ) → Job = λ x. record { plan = b.plan; images = x } in
    ap with_plan plan ∙ ap with_images images

-- and no refusal beside it
pub job_or_refusal : Laws → (told : List ℕ → Option (List ℕ)) (name : List ℕ) → IsSome (told name) → PlanTold told name → (job : Job) (line : Line) → IsJob told name job → IsRefusal told name line → ⊥
job_or_refusal laws told name some all job line is (plan_long q) = within_or_over (told name) 0x10000 some q.content is.content q.long is.read
job_or_refusal laws told name some all job line is (plan_refused d again fault of_fault e) =
    let content = one_content (told name) some d is.content again.as_told is.read.as_told in
    laws.plan_or_fault is.content job.plan fault is.plan_is (subst (λ c. IsPlanFault c fault) content of_fault)
job_or_refusal laws told name some all job line is (volume_long d again plan of_plan o) =
    let content = one_content (told name) some d is.content again.as_told is.read.as_told in
    let same : plan ≡ job.plan = laws.plans is.content plan job.plan (subst (λ c. IsPlan c plan) content of_plan) is.plan_is in
    long_told told job.plan.volumes line (volumes_told told name all job is) (subst (λ x. IsLongVolume told x.volumes line) same o) job.images is.images_are

-- its refusals have one status
refusals_status : Laws → (told : List ℕ → Option (List ℕ)) (name : List ℕ) → IsSome (told name) → (a b : Line) → IsRefusal told name a → IsRefusal told name b → refusal_status a ≡ refusal_status b
refusals_status laws told name some a b (plan_long p) (plan_long q) = ap refusal_status p.line_is ∙ sym (ap refusal_status q.line_is)
refusals_status laws told name some a b (plan_long p) (plan_refused d read g fault e) = absurd (within_or_over (told name) 0x10000 some p.content d p.long read)
refusals_status laws told name some a b (plan_long p) (volume_long d read plan is o) = absurd (within_or_over (told name) 0x10000 some p.content d p.long read)
refusals_status laws told name some a b (plan_refused d read g fault e) (plan_long p) = absurd (within_or_over (told name) 0x10000 some p.content d p.long read)
refusals_status laws told name some a b (volume_long d read plan is o) (plan_long p) = absurd (within_or_over (told name) 0x10000 some p.content d p.long read)
refusals_status laws told name some a b (plan_refused c read f fault e) (plan_refused d again g other u) = ap refusal_status e ∙ sym (ap refusal_status u)
refusals_status laws told name some a b (volume_long c read plan is o) (volume_long d again other also u) = ap refusal_status o.long.line_is ∙ sym (ap refusal_status u.long.line_is)
refusals_status laws told name some a b (plan_refused c read f fault e) (volume_long d again plan is o) =
    absurd (laws.plan_or_fault c plan f (subst (λ x. IsPlan x plan) (one_content (told name) some d c again.as_told read.as_told) is) fault)
refusals_status laws told name some a b (volume_long d again plan is o) (plan_refused c read f fault e) =
    absurd (laws.plan_or_fault c plan f (subst (λ x. IsPlan x plan) (one_content (told name) some d c again.as_told read.as_told) is) fault)

abbrev pub second : List (List ℕ) → List ℕ
second (x ∷ y ∷ rest) = y
second rest = []

abbrev first : List (List ℕ) → List ℕ
first (x ∷ rest) = x
first [] = []

-- words name one plan
pub one_plan : (words : List (List ℕ)) (command another : Command) (plan other : List ℕ) → AskFor words command plan → AskFor words another other → other ≡ plan
one_plan words command another plan other p q = ap second (sym q.0 ∙ p.0)

-- the two verbs differ in their length
abbrev verb_len : Command → ℕ
verb_len command = length (verb_of command)

one_command : (command another : Command) → verb_len command ≡ verb_len another → another ≡ command
one_command Boot Boot e = refl
one_command Boot Audit e = absurd (omega (arith, e))
one_command Audit Boot e = absurd (omega (arith, e))
one_command Audit Audit e = refl

-- and ask for one thing
pub one_asked : (words : List (List ℕ)) (command another : Command) (plan other : List ℕ) → AskFor words command plan → AskFor words another other → another ≡ command
one_asked words command another plan other p q = one_command command another (ap (λ ws. length (first ws)) (sym p.0 ∙ q.0))

-- the files of a plan that the words name are told
pub plan_told : (told : List ℕ → Option (List ℕ)) (words : List (List ℕ)) (command : Command) (plan : List ℕ) → AreTold told words → AskFor words command plan → PlanTold told plan
plan_told told words command plan all is content name as_told names = told_with (told plan) (all.plan_file command plan is) content as_told (λ e. all.volume_file command plan content name is e names)
  where
    told_with : {P : Type 0} → (known : Option (List ℕ)) → IsSome known → (content : List ℕ) → IsTold known content → (known ≡ Some content → P) → P
    told_with None some content as_told f = absurd (true≢false (sym some))
    told_with (Some x) some content as_told f = f (ap Some as_told)

-- and ask for one generated volume
one_number : (words : List (List ℕ)) (n m : ℕ) → AskForGenerated words n → AskForGenerated words m → m ≡ n
one_number words n m p q =
    let low = p.2.most in
    let high = q.2.most in
    let same : q.0 ≡ p.0 = ap second (sym q.1 ∙ p.1) in
    decimal_injective m n (omega (arith, high)) (omega (arith, low)) (sym q.2.word_is ∙ same ∙ p.2.word_is)

status_of_summary : (n : ℕ) → LeadsToOne (SummaryOutcome n)
status_of_summary n catalog a b s t one other =
    one.status_is ∙ ap status_of (one_end (end_of (generated_board n catalog) catalog FUEL) one.end other.end one.ended other.ended) ∙ sym other.status_is

status_of_generated : Laws → (n : ℕ) (a b : Status) (s t : List ℕ) → GeneratedOutcome n a s → GeneratedOutcome n b t → a ≡ b
status_of_generated laws n a b s t one other =
    status_of_images laws (SummaryOutcome n) generated_plan (generated_images n) (status_of_summary n) (one.of_bytes, tt) a b s t one.leads other.leads

-- words that ask for a generated volume name no plan
pub number_or_plan : (words : List (List ℕ)) (n : ℕ) (command : Command) (plan : List ℕ) → AskForGenerated words n → AskFor words command plan → ⊥
number_or_plan words n Boot plan p q = let e = ap (λ ws. length (first ws)) (sym p.1 ∙ q.0) in omega (arith, e)
number_or_plan words n Audit plan p q = let e = ap (λ ws. length (first ws)) (sym p.1 ∙ q.0) in omega (arith, e)

-- what the words ask for has one status
status_of_job : Laws → (told : List ℕ → Option (List ℕ)) (name : List ℕ) → PlanTold told name → (command : Command) (job : Job) → IsJob told name job → (a b : Status) (s t : List ℕ)
    → AskedOutcome (asked_of command job) a s → AskedOutcome (asked_of command job) b t → a ≡ b
status_of_job laws told name all Boot job is a b s t o u =
    status_of_images laws (CommandOutcome Boot job.plan job.images) job.plan job.images (status_of_command Boot job.plan job.images) (job_bytes told name all job is) a b s t o u
status_of_job laws told name all Audit job is a b s t o u =
    status_of_images laws (CommandOutcome Audit job.plan job.images) job.plan job.images (status_of_command Audit job.plan job.images) (job_bytes told name all job is) a b s t o u

status_of_asked : Laws → (told : List ℕ → Option (List ℕ)) (words : List (List ℕ)) → AreTold told words → (asked : Asked) → IsAsked told words asked → (a b : Status) (s t : List ℕ)
    → AskedOutcome asked a s → AskedOutcome asked b t → a ≡ b
status_of_asked laws told words all asked (job_asked command plan asks job is e) a b s t o u =
    status_of_job laws told plan (plan_told told words command plan all asks) command job is a b s t (subst (λ x. AskedOutcome x a s) e o) (subst (λ x. AskedOutcome x b t) e u)
status_of_asked laws told words all asked (number_asked n asks e) a b s t o u =
    status_of_generated laws n a b s t (subst (λ x. AskedOutcome x a s) e o) (subst (λ x. AskedOutcome x b t) e u)

-- they ask for one thing
one_asking : Laws → (told : List ℕ → Option (List ℕ)) (words : List (List ℕ)) → AreTold told words → (a b : Asked) → IsAsked told words a → IsAsked told words b → b ≡ a
one_asking laws told words all a b (job_asked command plan asks job is e) (job_asked another other also next of u) =
    let same = one_plan words command another plan other asks also in
    let here : IsJob told plan next = subst (λ n. IsJob told n next) same of in
    let jobs : next ≡ job = one_job laws told plan (all.plan_file command plan asks) (plan_told told words command plan all asks) next job here is in
    u ∙ ap (λ c. asked_of c next) (one_asked words command another plan other asks also) ∙ ap (λ j. asked_of command j) jobs ∙ sym e
one_asking laws told words all a b (job_asked command plan asks job is e) (number_asked n also u) = absurd (number_or_plan words n command plan also asks)
one_asking laws told words all a b (number_asked n asks e) (job_asked command plan also job is u) = absurd (number_or_plan words n command plan asks also)
one_asking laws told words all a b (number_asked n asks e) (number_asked m also u) = u ∙ ap A.Generate (one_number words n m asks also) ∙ sym e

-- and are not refused beside
asked_or_refused : Laws → (told : List ℕ → Option (List ℕ)) (words : List (List ℕ)) → AreTold told words → (asked : Asked) (line : Line) → IsAsked told words asked → IsRefused told words line → ⊥
asked_or_refused laws told words all asked line (job_asked command plan asks job is e) (words_refused none u) = none.no_plan command plan asks
asked_or_refused laws told words all asked line (number_asked n asks e) (words_refused none u) = none.no_number n asks
asked_or_refused laws told words all asked line (number_asked n asks e) (job_refused command plan also refusal) = number_or_plan words n command plan asks also
asked_or_refused laws told words all asked line (job_asked command plan asks job is e) (job_refused another other also refusal) =
    let here = subst (λ n. IsRefusal told n line) (one_plan words command another plan other asks also) refusal in
    job_or_refusal laws told plan (all.plan_file command plan asks) (plan_told told words command plan all asks) job line is here

-- refused words have one status
status_of_refused : Laws → (told : List ℕ → Option (List ℕ)) (words : List (List ℕ)) → AreTold told words → (a b : Line) → IsRefused told words a → IsRefused told words b → refusal_status a ≡ refusal_status b
status_of_refused laws told words all a b (words_refused none e) (words_refused same u) = ap refusal_status e ∙ sym (ap refusal_status u)
status_of_refused laws told words all a b (words_refused none e) (job_refused command plan asks refusal) = absurd (none.no_plan command plan asks)
status_of_refused laws told words all a b (job_refused command plan asks refusal) (words_refused none e) = absurd (none.no_plan command plan asks)
status_of_refused laws told words all a b (job_refused command plan asks refusal) (job_refused another other also again) =
    let here = subst (λ n. IsRefusal told n b) (one_plan words command another plan other asks also) again in
    refusals_status laws told plan (all.plan_file command plan asks) a b refusal here

one_status : Laws → (told : List ℕ → Option (List ℕ)) (words : List (List ℕ)) → AreTold told words
    → (a b : Status) (s t : List ℕ) → Outcome told words a s → Outcome told words b t → a ≡ b
one_status laws told words all a b s t (refusal_told line is p x) (refusal_told other also q y) = p ∙ status_of_refused laws told words all line other is also ∙ sym q
one_status laws told words all a b s t (refusal_told line is p x) (asked_done asked asks o) = absurd (asked_or_refused laws told words all asked line asks is)
one_status laws told words all a b s t (asked_done asked asks o) (refusal_told line is p x) = absurd (asked_or_refused laws told words all asked line asks is)
one_status laws told words all a b s t (asked_done asked asks o) (asked_done other also u) =
    let here = subst (λ x. AskedOutcome x b t) (one_asking laws told words all asked other asks also) u in
    status_of_asked laws told words all asked asks a b s t o here

-- an answer is the one that is due
due : Laws → (k : Kind) (told : List ℕ → Option (List ℕ)) (words : List (List ℕ)) (Named : List ℕ → Type 0) (Boots : Type 0) (status wanted : Status) (t : Trail)
    → EndsBy k (Outcome told words) Named Boots status t → AreTold told words → LeadsTo told words wanted → (status ≡ wanted) ⊎ IsStopped k
due laws OfAnswer told words Named Boots status wanted t e all leads = inl (one_status laws told words all status wanted e.text leads.0 e.outcome leads.1)
due laws OfFiles told words Named Boots status wanted t e all leads = inr tt
due laws OfSink told words Named Boots status wanted t e all leads = inr tt
due laws OfMemory told words Named Boots status wanted t e all leads = inr tt

-- how a call ends says when each answer comes
pub comes_exactly : Laws → (told : List ℕ → Option (List ℕ)) (words : List (List ℕ)) (Named : List ℕ → Type 0) (Boots : Type 0) (status wanted : Status) (t : Trail)
    → kind_of wanted ≡ OfAnswer → Ends (Outcome told words) Named Boots status t → ComesExactly told words wanted status
comes_exactly laws told words Named Boots status wanted t kind e = record {
  only = λ same.
      let P : Status → Type 0 = λ s. Ends (Outcome told words) Named Boots s t in
      let Q : Kind → Type 0 = λ k. EndsBy k (Outcome told words) Named Boots wanted t in
      let answered : Answered (Outcome told words) wanted t = subst Q kind (subst P same e) in
      (answered.text, answered.outcome);
  whenever = λ all leads. due laws (kind_of status) told words Named Boots status wanted t e all leads;
}

-- The images of volumes, and what stands of a file that is refused.
use Rattle.std.proofs.Common.{◌≡◌, ◌⊎◌, ◌≤◌, ◌<◌, ℕ, suc, ◌+◌, List, [], ◌∷◌, ◌++◌, length, Option, Some, None, Result, Ok, Err, replicate, inl, inr, arith, refl, sym, ap, ◌∙◌, take, drop, get_or, subst, All, IfSome, take-append-drop}
use Rattle.std.proofs.lemmas.List.{length-replicate, take_more, drop_more}
use Rattle.std.proofs.lemmas.List.Elements.{All-nil, All-cons}
use Rattle.boot_plan.specs.declared.plan.PlanVolume.{PlanVolume}
use Rattle.pi_base.specs.Lists.{EachPair}
use Rattle.boot_core.specs.Reading.{IsRead, IsLong, AreImages, IsMissed, FilesTrail, Lacks, Reads}
use Rattle.boot_core.specs.declared.plan_files.reading.NoJob.{NoJob}
use Rattle.boot_core.specs.declared.plan_files.reading.NoJob.TheVariants.{Refused, Memory}
use Rattle.boot_model.specs.declared.line.Line.{Line}
use Rattle.boot_core.specs.Parsing.{IsFaultLine, Parses}
use Rattle.boot_io.specs.Faults.{Rose}

-- a pair more
pair_more : {A B : Type 0} (R : A → B → Type 0) (xs : List A) (ys : List B) (x : A) (y : B) → EachPair R xs ys → R x y → EachPair R (xs ++ x ∷ []) (ys ++ y ∷ [])
pair_more R [] [] x y each is = (is, tt)
pair_more R [] (b ∷ ys) x y each is = absurd each
pair_more R (a ∷ xs) [] x y each is = absurd each
pair_more R (a ∷ xs) (b ∷ ys) x y each is = (each.0, pair_more R xs ys x y each.1 is)

-- the items up to a place, the one there, and those behind it
pub split_at : {A : Type 0} (xs : List A) (i : ℕ) (x : A) → i < length xs → x ≡ get_or xs i x → xs ≡ take i xs ++ x ∷ drop (i + 1) xs
split_at xs i x within is =
    sym (take-append-drop i xs) ∙ ap (λ t. take i xs ++ t) (drop_more xs i x within) ∙ ap (λ y. take i xs ++ y ∷ drop (i + 1) xs) (sym is)

-- the image of a volume more
pub image_more : (told : List ℕ → Option (List ℕ)) (volumes : List PlanVolume) (i : ℕ) (volume : PlanVolume) (images : List (List ℕ)) (image : List ℕ)
    → i < length volumes → volume ≡ get_or volumes i volume → AreImages told (take i volumes) images → IsRead (told volume.name) 0x4000000 image
    → AreImages told (take (i + 1) volumes) (images ++ image ∷ [])
image_more told volumes i volume images image within is read this =
    let more : take (i + 1) volumes ≡ take i volumes ++ volume ∷ [] = take_more volumes i volume within ∙ ap (λ y. take i volumes ++ y ∷ []) (sym is) in
    let R : PlanVolume → List ℕ → Type 0 = λ v image. IsRead (told v.name) 0x4000000 image in
    let P : List PlanVolume → Type 0 = λ vs. AreImages told vs (images ++ image ∷ []) in
    subst P (sym more) (pair_more R (take i volumes) images volume image read this)

-- there are as many images as volumes
pub images_len : (told : List ℕ → Option (List ℕ)) (volumes : List PlanVolume) (images : List (List ℕ)) → AreImages told volumes images → length images ≡ length volumes
images_len told [] [] read = refl
images_len told [] (image ∷ images) read = absurd read
images_len told (volume ∷ volumes) [] read = absurd read
images_len told (volume ∷ volumes) (image ∷ images) read = ap suc (images_len told volumes images read.1)

-- and each is within the limit
pub images_short : (told : List ℕ → Option (List ℕ)) (volumes : List PlanVolume) (images : List (List ℕ)) → AreImages told volumes images → All (λ image. length image ≤ 0x4000000) images
images_short told [] [] read = All-nil (λ image. length image ≤ 0x4000000)
images_short told [] (image ∷ images) read = absurd read
images_short told (volume ∷ volumes) [] read = absurd read
images_short told (volume ∷ volumes) (image ∷ images) read = All-cons (λ image. length image ≤ 0x4000000) image images read.0.within (images_short told volumes images read.1)

-- a content over a limit, as it is told or any
pub long_content : (told : Option (List ℕ)) (limit : ℕ) → IfSome told (λ content. limit < length content) → (content : List ℕ) × IsLong told limit content
long_content None limit h =
    let zeros : ℕ = 0 in (replicate (limit + 1) zeros, record { as_told = tt; over = let e : length (replicate (limit + 1) zeros) ≡ limit + 1 = length-replicate (limit + 1) zeros in omega arith })
long_content (Some content) limit h = (content, record { as_told = refl; over = h })

-- what is missed behind a failed call is its name
pub missed_is : (missed : Option (List ℕ)) (name : List ℕ) → (missed ≡ None) ⊎ (missed ≡ Some name) → IsMissed missed name
missed_is missed name m = elim m [ inl none ↦ rw none tt | inr some ↦ rw some refl ]

-- why there is nothing, told of a longer way
pub lacks_up : (Near Far : Line → Type 0) (Names Named : List ℕ → Type 0) (start mid now : ℕ) (missed : Option (List ℕ)) (none : NoJob) → ((line : Line) → Near line → Far line) → ((name : List ℕ) → Names name → Named name)
    → mid ≡ start → Lacks Near Names (record { before = mid; now = now; missed = missed }) none → Lacks Far Named (record { before = start; now = now; missed = missed }) none
lacks_up Near Far Names Named start mid now missed (Refused line) up names same (inl h) = inl (up line h.0, h.1 ∙ same)
lacks_up Near Far Names Named start mid now missed (Refused line) up names same (inr h) =
    inr (record { name = h.name; named = names h.name h.named; missed = h.missed; rose = subst (λ n. Rose n now) same h.rose; line_is = h.line_is })
lacks_up Near Far Names Named start mid now missed Memory up names same h = h ∙ same

-- why a text spells no plan, told of its file
pub lacks_fault : (text : List ℕ) (Far : Line → Type 0) (Named : List ℕ → Type 0) (t : FilesTrail) (none : NoJob) → ((line : Line) → IsFaultLine text line → Far line) → t.now ≡ t.before → Parses text (Err none) → Lacks Far Named t none
lacks_fault text Far Named t (Refused line) up same h = inl (up line h, same)
lacks_fault text Far Named t Memory up same h = same

-- a reading, told of a longer way
pub reads_up : {A : Type 0} (Good Whole : A → Type 0) (Near Far : Line → Type 0) (Names Named : List ℕ → Type 0) (start mid now : ℕ) (missed : Option (List ℕ)) (result : Result A NoJob)
    → ((value : A) → Good value → Whole value) → ((line : Line) → Near line → Far line) → ((name : List ℕ) → Names name → Named name) → mid ≡ start
    → Reads Good Near Names (record { before = mid; now = now; missed = missed }) result → Reads Whole Far Named (record { before = start; now = now; missed = missed }) result
reads_up Good Whole Near Far Names Named start mid now missed (Ok value) whole up names same h = (whole value h.0, h.1 ∙ same)
reads_up Good Whole Near Far Names Named start mid now missed (Err none) whole up names same h = lacks_up Near Far Names Named start mid now missed none up names same h

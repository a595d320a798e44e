-- What is told is one: a content, the images of a plan's volumes, and the first of their files that is too long.
use Rattle.std.proofs.Common.{◌≡◌, ℕ, List, [], ◌∷◌, ◌++◌, length, Option, Some, None, refl, sym, ap, ◌∙◌, subst, arith}
use Rattle.boot_io.specs.Files.{IsTold}
use Rattle.boot_plan.specs.declared.plan.PlanVolume.{PlanVolume}
use Rattle.boot_model.specs.declared.line.Line.{Line}
use Rattle.boot_model.specs.declared.line.Line.TheVariants as L
use Rattle.pi_base.specs.{Field.AreBytes, Lists.Each}
use Rattle.boot_core.specs.Reading.{AreImages, IsLong, IsLongVolume, IsReached, IsRead, Reaches, volume_limit}
use Rattle.tools_core.specs.FileReading.{LongOutcome}
use Rattle.tools_core.specs.OneOutcome.{AreAllTold, IsOne, IsToldAsBytes}

pub one_content : (told : Option (List ℕ)) → IsToldAsBytes told → (c d : List ℕ) → IsTold told c → IsTold told d → c ≡ d
one_content None none c d p q = absurd none
one_content (Some x) are c d p q = sym p ∙ q

pub told_bytes : (told : Option (List ℕ)) → IsToldAsBytes told → (content : List ℕ) → IsTold told content → AreBytes content
told_bytes None none content is = absurd none
told_bytes (Some told) are content is = subst AreBytes is are

-- a content is not both within a limit and over it
pub within_or_over : (told : Option (List ℕ)) (limit : ℕ) → IsToldAsBytes told → (c d : List ℕ) → IsLong told limit c → IsRead told limit d → ⊥
within_or_over told limit are c d long read =
    let same : length c ≡ length d = ap length (one_content told are c d long.as_told read.as_told) in
    let over = long.over in
    let within = read.within in
    omega (arith, same, over, within)

pub one_long : (told : Option (List ℕ)) (limit : ℕ) (name : List ℕ) → IsOne (LongOutcome told limit name)
one_long told limit name a b s t p q = (p.status_is ∙ sym q.status_is, p.text_is ∙ sym q.text_is)

-- the files of some volumes are told, each that is reached
abbrev pub VolumesTold : (List ℕ → Option (List ℕ)) → List PlanVolume → Type 0
VolumesTold told volumes = AreAllTold told (IsReached told volumes)

pub at_volume : (told : List ℕ → Option (List ℕ)) (volumes : List PlanVolume) → VolumesTold told volumes → (volume : PlanVolume) → Reaches told volumes volume → IsToldAsBytes (told volume.name)
at_volume told volumes all volume reached = all volume.name (record { volume = volume; reached = reached; is = refl })

first_told : (told : List ℕ → Option (List ℕ)) (volume : PlanVolume) (volumes : List PlanVolume) → VolumesTold told (volume ∷ volumes) → IsToldAsBytes (told volume.name)
first_told told volume volumes all = at_volume told (volume ∷ volumes) all volume (record { before = []; behind = volumes; images = []; these = refl; read = tt })

rest_told : (told : List ℕ → Option (List ℕ)) (volume : PlanVolume) (volumes : List PlanVolume) (image : List ℕ) → VolumesTold told (volume ∷ volumes) → IsRead (told volume.name) volume_limit image → VolumesTold told volumes
rest_told told volume volumes image all read name o =
    let r = o.reached in
    let reached : Reaches told (volume ∷ volumes) o.volume = record { before = volume ∷ r.before; behind = r.behind; images = image ∷ r.images; these = ap (λ vs. volume ∷ vs) r.these; read = (read, r.read) } in
    all name (record { volume = o.volume; reached = reached; is = o.is })

-- told images are of bytes
pub images_bytes : (told : List ℕ → Option (List ℕ)) (volumes : List PlanVolume) → VolumesTold told volumes → (images : List (List ℕ)) → AreImages told volumes images → Each AreBytes images
images_bytes told [] all [] read = tt
images_bytes told [] all (image ∷ images) read = absurd read
images_bytes told (volume ∷ volumes) all [] read = absurd read
images_bytes told (volume ∷ volumes) all (image ∷ images) read =
    (told_bytes (told volume.name) (first_told told volume volumes all) image read.0.as_told, images_bytes told volumes (rest_told told volume volumes image all read.0) images read.1)

pub one_images : (told : List ℕ → Option (List ℕ)) (volumes : List PlanVolume) → VolumesTold told volumes → (a b : List (List ℕ)) → AreImages told volumes a → AreImages told volumes b → a ≡ b
one_images told [] all [] [] p q = refl
one_images told [] all [] (y ∷ b) p q = absurd q
one_images told [] all (x ∷ a) b p q = absurd p
one_images told (volume ∷ volumes) all [] b p q = absurd p
one_images told (volume ∷ volumes) all (x ∷ a) [] p q = absurd q
one_images told (volume ∷ volumes) all (x ∷ a) (y ∷ b) p q =
    let first : x ≡ y = one_content (told volume.name) (first_told told volume volumes all) x y p.0.as_told q.0.as_told in
    let rest : a ≡ b = one_images told volumes (rest_told told volume volumes x all p.0) a b p.1 q.1 in
    ap (λ z. z ∷ a) first ∙ ap (λ zs. y ∷ zs) rest

-- where a file is too long there are no images
images_or_long : (told : List ℕ → Option (List ℕ)) (before : List PlanVolume) (volume : PlanVolume) (behind : List PlanVolume) → IsToldAsBytes (told volume.name) → (content : List ℕ) → IsLong (told volume.name) volume_limit content
    → (images : List (List ℕ)) → AreImages told (before ++ volume ∷ behind) images → ⊥
images_or_long told [] volume behind are content long [] read = read
images_or_long told [] volume behind are content long (image ∷ images) read = within_or_over (told volume.name) volume_limit are content image long read.0
images_or_long told (first ∷ before) volume behind are content long [] read = read
images_or_long told (first ∷ before) volume behind are content long (image ∷ images) read = images_or_long told before volume behind are content long images read.1

pub long_told : (told : List ℕ → Option (List ℕ)) (volumes : List PlanVolume) (line : Line) → VolumesTold told volumes → IsLongVolume told volumes line → (images : List (List ℕ)) → AreImages told volumes images → ⊥
long_told told volumes line all o images read =
    let r = o.reached in
    let P : List PlanVolume → Type 0 = λ vs. AreImages told vs images in
    images_or_long told r.before o.volume r.behind (at_volume told volumes all o.volume r) o.long.content o.long.long images (subst P r.these read)

-- a volume whose file is too long, behind files that are read
record FirstLong (told : List ℕ → Option (List ℕ)) (before : List PlanVolume) (volume : PlanVolume) : Type 0 where
  images : List (List ℕ)
  read : AreImages told before images
  are : IsToldAsBytes (told volume.name)
  content : List ℕ
  long : IsLong (told volume.name) volume_limit content

-- none that is read is too long
read_or_long : (told : List ℕ → Option (List ℕ)) (before : List PlanVolume) (first volume : PlanVolume) → FirstLong told (first ∷ before) volume → (content : List ℕ) → IsToldAsBytes (told first.name) → IsLong (told first.name) volume_limit content → ⊥
read_or_long told before first volume f content are long = by f.images f.read
  where
    by : (images : List (List ℕ)) → AreImages told (first ∷ before) images → ⊥
    by [] read = read
    by (image ∷ images) read = within_or_over (told first.name) volume_limit are content image long read.0

behind_first : (told : List ℕ → Option (List ℕ)) (before : List PlanVolume) (first volume : PlanVolume) → FirstLong told (first ∷ before) volume → FirstLong told before volume
behind_first told before first volume f = by f.images f.read
  where
    by : (images : List (List ℕ)) → AreImages told (first ∷ before) images → FirstLong told before volume
    by [] read = absurd read
    by (image ∷ images) read = record { images = images; read = read.1; are = f.are; content = f.content; long = f.long }

one_place : (told : List ℕ → Option (List ℕ)) (before other : List PlanVolume) (v w : PlanVolume) (behind more : List PlanVolume) → before ++ v ∷ behind ≡ other ++ w ∷ more → FirstLong told before v → FirstLong told other w → v ≡ w
one_place told [] [] v w behind more same p q = cc
one_place told [] (y ∷ other) v w behind more same p q =
    let here : v ≡ y = cc in
    absurd (read_or_long told other y w q p.content (subst (λ (x : PlanVolume). IsToldAsBytes (told x.name)) here p.are) (subst (λ (x : PlanVolume). IsLong (told x.name) volume_limit p.content) here p.long))
one_place told (x ∷ before) [] v w behind more same p q =
    let here : w ≡ x = cc in
    absurd (read_or_long told before x v p q.content (subst (λ (x : PlanVolume). IsToldAsBytes (told x.name)) here q.are) (subst (λ (x : PlanVolume). IsLong (told x.name) volume_limit q.content) here q.long))
one_place told (x ∷ before) (y ∷ other) v w behind more same p q =
    let rest : before ++ v ∷ behind ≡ other ++ w ∷ more = cc in
    one_place told before other v w behind more rest (behind_first told before x v p) (behind_first told other y w q)

first_long : (told : List ℕ → Option (List ℕ)) (volumes : List PlanVolume) (line : Line) → VolumesTold told volumes → (o : IsLongVolume told volumes line) → FirstLong told o.reached.before o.volume
first_long told volumes line all o =
    record { images = o.reached.images; read = o.reached.read; are = at_volume told volumes all o.volume o.reached; content = o.long.content; long = o.long.long }

-- the first file that is too long is named by one line
pub one_long_volume : (told : List ℕ → Option (List ℕ)) (volumes : List PlanVolume) → VolumesTold told volumes → (a b : Line) → IsLongVolume told volumes a → IsLongVolume told volumes b → a ≡ b
one_long_volume told volumes all a b p q =
    let r = p.reached in
    let o = q.reached in
    let same : p.volume ≡ q.volume = one_place told r.before o.before p.volume q.volume r.behind o.behind (sym r.these ∙ o.these) (first_long told volumes a all p) (first_long told volumes b all q) in
    p.long.line_is ∙ ap (λ (v : PlanVolume). L.RefusedLong v.name) same ∙ sym q.long.line_is

-- Images have one first fault: of two, one would stand where the other says that all is sound.
use Rattle.std.proofs.Common.{◌≡◌, ℕ, zero, suc, ◌+◌, Bool, true, false, List, [], ◌∷◌, ◌++◌, length, map, refl, sym, ap, ◌∙◌, subst, arith, drop, inl, inr, true≢false, eqb-true, ◌==◌}
use Rattle.pi_base.specs.{Field.AreBytes, Lists.Each}
use Rattle.fv_volume.specs.{declared.file.FfsFile.FfsFile, declared.file_type.TheConstants.VOLUME_IMAGE, declared.volume.Volume.Volume}
use Rattle.fv_volume.specs.{declared.fault.VolFault.VolFault, Volume.IsVolume, declared.sections.section.Section.Section}
use Rattle.fv_volume.specs.declared.sections.fault.SecFault.{SecFault}
use Rattle.act_code.specs.declared.fault.ActFault.{ActFault}
use Rattle.boot_plan.specs.{declared.plan.Plan.Plan, declared.plan.PlanVolume.PlanVolume}
use Rattle.mod_catalog.specs.{declared.limits.TheConstants.MOST_DEPTH, declared.image_fault.ImageFault.ImageFault}
use Rattle.mod_catalog.specs.{declared.image_fault.ImageCause.ImageCause, FileType.has_module}
use Rattle.mod_catalog.specs.ImageCause.{volume_cause, section_cause, script_cause}
use Rattle.mod_catalog.specs.ReadFile.{ReadFile, Stretch, file_body, section_body, holds_volume, nested_in}
use Rattle.mod_catalog.specs.Totals.{Totals, AreWithin, no_totals, totals_with, with_volume, bytes_of}
use Rattle.mod_catalog.specs.VolumeTree.{Image, Holding, AreNested, Holds, nested_image, nested_stretches, joined, nothing}
use Rattle.mod_catalog.specs.Catalogue.{PlanHolds, plan_image, has_place}
use Rattle.mod_catalog.specs.ImageFault.{FaultAt, Refusals, HasRoom, IsModuleTooMany, IsScriptRefused, IsScriptsFault, IsStretchesFault, IsFileFault, too_many_modules, in_sections, in_scripts, in_nested, totals_behind, IsFilesFault, IsOwnFault, IsRefused, IsPlanVolumeFault, IsImageFault}
use Rattle.mod_catalog.proofs.ListCuts.{head_or, tail_of, Cut, here, before, behind, cut}
use Rattle.mod_catalog.proofs.OneCatalogue.{Laws, one_files, one_nested, one_held}
use Rattle.mod_catalog.proofs.NestedParts.{bytes_drop, bytes_take}
use Rattle.mod_catalog.proofs.SoundFiles.{Never, One, no_list, scripts_have, body_bytes, script_never, stretch_never, found_at, file_never}
use Rattle.mod_catalog.proofs.CatalogueOrFault.{own_never, never_refused, plan_grows, plan_volume_never}

-- what is refused of bytes has one fault
abbrev pub OneRefusal : Refusals → Type 0
OneRefusal Refused = (image : Image) (totals : Totals) (a b : FaultAt) → AreBytes image.bytes → image.location.number ≡ totals.volumes → Refused image totals a → Refused image totals b → a ≡ b

-- a file that a volume is nested in has no module
nested_have_none : (file : FfsFile) (sections : List Section) (xs : List Stretch) (x : Stretch) (ys : List Stretch) → nested_in file sections ≡ xs ++ x ∷ ys → has_module file.kind ≡ true → ⊥
nested_have_none file sections xs x ys these has = by (file.kind == VOLUME_IMAGE) refl
  where
    none : (sections : List Section) → (file.kind == VOLUME_IMAGE) ≡ false → nested_in file sections ≡ []
    none [] e = refl
    none (s ∷ sections) e =
        let out : holds_volume file s ≡ false = rw e refl in
        rw out (none sections e)

    by : (b : Bool) → (file.kind == VOLUME_IMAGE) ≡ b → ⊥
    by true e =
        let without : has_module file.kind ≡ false = ap has_module (eqb-true file.kind VOLUME_IMAGE e) in
        true≢false (sym has ∙ without)
    by false e = no_list xs x ys (sym (none sections e) ∙ these)

no_room : (at : ℕ) (totals : Totals) (file : FfsFile) (fault : FaultAt) → HasRoom totals file → IsModuleTooMany at totals file fault → ⊥
no_room at totals file fault room many = omega (arith, room many.is_module, many.most)

-- what is wrong with one script
one_script : Laws → (bytes : List ℕ) (file : FfsFile) (section : Section) (at used : ℕ) (a b : FaultAt) → AreBytes bytes → IsScriptRefused bytes file section at used a
    → IsScriptRefused bytes file section at used b → a ≡ b
one_script laws bytes file section at used a b are (inl p) (inl q) =
    let same : p.found ≡ q.found = laws.script_faults (section_body bytes file section) p.found q.found (body_bytes bytes file section are) p.first q.first in
    p.is ∙ ap (λ (f : ActFault). record { at = at + f.at; cause = script_cause f.cause }) same ∙ sym q.is
one_script laws bytes file section at used a b are (inl p) (inr q) = absurd (laws.script_or_fault (section_body bytes file section) q.script.0 p.found (body_bytes bytes file section are) q.script.1 p.first)
one_script laws bytes file section at used a b are (inr p) (inl q) = absurd (laws.script_or_fault (section_body bytes file section) p.script.0 q.found (body_bytes bytes file section are) p.script.1 q.first)
one_script laws bytes file section at used a b are (inr p) (inr q) = p.is ∙ sym q.is

-- the first script of a file that is refused
one_scripts_fault : Laws → (bytes : List ℕ) (file : FfsFile) (sections : List Section) (at used : ℕ) (a b : FaultAt) → AreBytes bytes → IsScriptsFault bytes file sections at used a
    → IsScriptsFault bytes file sections at used b → a ≡ b
one_scripts_fault laws bytes file sections at used a b are f g = by (cut f.before f.section f.behind g.before g.section g.behind (sym f.these ∙ g.these))
  where
    place_of : Section → ℕ
    place_of section = at + file.body_at + section.body_at

    by : Cut f.before f.section g.before g.section → a ≡ b
    by (here same is) =
        let P : List Section × Section → Type 0 = λ s. IsScriptRefused bytes file s.1 (place_of s.1) (used + bytes_of s.0) b in
        let pair : ◌≡◌ {A = List Section × Section} (f.before, f.section) (g.before, g.section) = cc in
        one_script laws bytes file f.section (place_of f.section) (used + bytes_of f.before) a b are f.first (subst P (sym pair) g.first)
    by (before middle among) = absurd (script_never laws bytes file (place_of f.section) used a f.before f.section middle g.before are among g.sound g.within f.first)
    by (behind middle among) = absurd (script_never laws bytes file (place_of g.section) used b g.before g.section middle f.before are among f.sound f.within g.first)

module _ (laws : Laws) (Held : Image → Holding → Type 0) (Refused : Refusals) (one : One Held) (never : Never Held Refused) (one_refusal : OneRefusal Refused) where
  -- the first nested volume that is refused
  one_stretches_fault : (image : Image) (totals : Totals) (stretches : List Stretch) (a b : FaultAt) → AreBytes image.bytes → IsStretchesFault Refused Held image totals stretches a
      → IsStretchesFault Refused Held image totals stretches b → a ≡ b
  one_stretches_fault image totals stretches a b bytes f g = by (cut f.before f.stretch f.behind g.before g.stretch g.behind (sym f.these ∙ g.these))
    where
      by : Cut f.before f.stretch g.before g.stretch → a ≡ b
      by (here same is) =
          let held : f.inner ≡ g.inner = one_nested Held one image totals.volumes f.before f.inner g.inner f.nested (subst (λ xs. AreNested Held image totals.volumes xs g.inner) (sym same) g.nested) in
          let P : Holding × Stretch → Type 0 = λ s. Refused (nested_image image (totals.volumes + length s.0.volumes) s.1) (totals_with totals s.0) b in
          let pair : ◌≡◌ {A = Holding × Stretch} (f.inner, f.stretch) (g.inner, g.stretch) = cc in
          one_refusal (nested_image image (totals.volumes + length f.inner.volumes) f.stretch) (totals_with totals f.inner) a b
          (bytes_take f.stretch.len (drop f.stretch.at image.bytes) (bytes_drop f.stretch.at image.bytes bytes)) refl f.first (subst P (sym pair) g.first)
      by (before middle among) = absurd (stretch_never Held Refused one never image totals a f.before f.stretch middle g.before f.inner g.inner bytes among f.nested g.nested g.within f.first)
      by (behind middle among) = absurd (stretch_never Held Refused one never image totals b g.before g.stretch middle f.before g.inner f.inner bytes among g.nested f.nested f.within g.first)

  -- the fault of a file
  one_file_fault : (image : Image) (totals : Totals) (file : FfsFile) (a b : FaultAt) → AreBytes image.bytes → IsFileFault Refused Held image totals file a → IsFileFault Refused Held image totals file b → a ≡ b
  one_file_fault image totals file a b bytes (too_many_modules f) (too_many_modules g) = f.is ∙ sym g.is
  one_file_fault image totals file a b bytes (too_many_modules f) (in_sections room g) = absurd (no_room image.location.at totals file a room f)
  one_file_fault image totals file a b bytes (too_many_modules f) (in_scripts room sections are g) = absurd (no_room image.location.at totals file a room f)
  one_file_fault image totals file a b bytes (too_many_modules f) (in_nested sections are g) = absurd (nested_have_none file sections g.before g.stretch g.behind g.these f.is_module)
  one_file_fault image totals file a b bytes (in_sections room f) (too_many_modules g) = absurd (no_room image.location.at totals file b room g)
  one_file_fault image totals file a b bytes (in_sections room f) (in_sections also g) =
      let same : f.found ≡ g.found = laws.section_faults (file_body image.bytes file) f.found g.found f.first g.first in
      f.is ∙ ap (λ (x : SecFault). record { at = image.location.at + file.body_at + x.at; cause = section_cause x.cause }) same ∙ sym g.is
  one_file_fault image totals file a b bytes (in_sections room f) (in_scripts also sections are g) = absurd (laws.sections_or_fault (file_body image.bytes file) sections f.found are f.first)
  one_file_fault image totals file a b bytes (in_sections room f) (in_nested sections are g) = absurd (laws.sections_or_fault (file_body image.bytes file) sections f.found are f.first)
  one_file_fault image totals file a b bytes (in_scripts room sections are f) (too_many_modules g) = absurd (no_room image.location.at totals file b room g)
  one_file_fault image totals file a b bytes (in_scripts room sections are f) (in_sections also g) = absurd (laws.sections_or_fault (file_body image.bytes file) sections g.found are g.first)
  one_file_fault image totals file a b bytes (in_scripts room sections are f) (in_scripts also others are' g) =
      let same : others ≡ sections = laws.sections (file_body image.bytes file) others sections are' are in
      one_scripts_fault laws image.bytes file sections image.location.at totals.script_bytes a b bytes f (subst (λ s. IsScriptsFault image.bytes file s image.location.at totals.script_bytes b) same g)
  one_file_fault image totals file a b bytes (in_scripts room sections are f) (in_nested others are' g) =
      absurd (nested_have_none file others g.before g.stretch g.behind g.these (scripts_have image.bytes file sections f.before f.section f.behind f.these))
  one_file_fault image totals file a b bytes (in_nested sections are f) (too_many_modules g) = absurd (nested_have_none file sections f.before f.stretch f.behind f.these g.is_module)
  one_file_fault image totals file a b bytes (in_nested sections are f) (in_sections room g) = absurd (laws.sections_or_fault (file_body image.bytes file) sections g.found are g.first)
  one_file_fault image totals file a b bytes (in_nested sections are f) (in_scripts room others are' g) =
      absurd (nested_have_none file sections f.before f.stretch f.behind f.these (scripts_have image.bytes file others g.before g.section g.behind g.these))
  one_file_fault image totals file a b bytes (in_nested sections are f) (in_nested others are' g) =
      let same : others ≡ sections = laws.sections (file_body image.bytes file) others sections are' are in
      one_stretches_fault image totals (nested_in file sections) a b bytes f (subst (λ s. IsStretchesFault Refused Held image totals (nested_in file s) b) same g)

  -- a file of one fault is not among the sound ones before another
  files_before : (image : Image) (totals : Totals) (files : List FfsFile) (a b : FaultAt) → AreBytes image.bytes → (f : IsFilesFault Refused Held image totals files a)
      (g : IsFilesFault Refused Held image totals files b) (middle : List FfsFile) → map (λ read. read.file) g.before ≡ map (λ read. read.file) f.before ++ f.file ∷ middle → ⊥
  files_before image totals files a b bytes f g middle among =
      let there = found_at laws Held one image totals g.before g.inner g.sound f.before f.file middle f.inner among f.sound in
      file_never laws Held Refused one never image totals g.before g.inner bytes g.sound a f.before f.file f.inner there f.first

  -- the first file of a volume with a fault
  one_files_fault : (image : Image) (totals : Totals) (files : List FfsFile) (a b : FaultAt) → AreBytes image.bytes → IsFilesFault Refused Held image totals files a
      → IsFilesFault Refused Held image totals files b → a ≡ b
  one_files_fault image totals files a b bytes f g = by (cut (map (λ read. read.file) f.before) f.file f.behind (map (λ read. read.file) g.before) g.file g.behind (sym f.these ∙ g.these))
    where
      by : Cut (map (λ (read : ReadFile). read.file) f.before) f.file (map (λ (read : ReadFile). read.file) g.before) g.file → a ≡ b
      by (here same is) =
          let reads : f.before ≡ g.before = one_files laws image.bytes f.before g.before same f.sound.each g.sound.each in
          let held : f.inner ≡ g.inner =
          one_nested Held one image totals.volumes (nested_stretches f.before) f.inner g.inner f.sound.nested
          (subst (λ rs. AreNested Held image totals.volumes (nested_stretches rs) g.inner) (sym reads) g.sound.nested) in
          let P : List ReadFile × Holding × FfsFile → Type 0 = λ s. IsFileFault Refused Held image (totals_behind totals image.bytes s.0 s.1) s.2 b in
          let three : ◌≡◌ {A = List ReadFile × Holding × FfsFile} (f.before, f.inner, f.file) (g.before, g.inner, g.file) = cc in
          one_file_fault image (totals_behind totals image.bytes f.before f.inner) f.file a b bytes f.first (subst P (sym three) g.first)
      by (before middle among) = absurd (files_before image totals files a b bytes f g middle among)
      by (behind middle among) = absurd (files_before image totals files b a bytes g f middle among)

-- the fault of a volume itself
one_own : Laws → (image : Image) (totals : Totals) (a b : FaultAt) → IsOwnFault image totals a → IsOwnFault image totals b → a ≡ b
one_own laws image totals a b (inl p) (inl q) = p.1 ∙ sym q.1
one_own laws image totals a b (inl p) (inr q) = absurd (omega (arith, p.0, q.0))
one_own laws image totals a b (inr p) (inl q) = absurd (omega (arith, p.0, q.0))
one_own laws image totals a b (inr p) (inr q) =
    let same : p.1 ≡ q.1 = laws.volume_faults image.bytes p.1 q.1 p.2 q.2 in
    p.3 ∙ ap (λ (f : VolFault). record { at = image.location.at + f.at; cause = volume_cause f.cause }) same ∙ sym q.3

-- and that of a volume with all that is nested in it
one_refused : Laws → (deep : ℕ) → OneRefusal (IsRefused deep)
one_refused laws zero image totals a b bytes number p q = p ∙ sym q
one_refused laws (suc deep) image totals a b bytes number (inl p) (inl q) = one_own laws image totals a b p q
one_refused laws (suc deep) image totals a b bytes number (inl p) (inr q) = absurd (own_never laws image totals a q.1 q.2 q.0 p)
one_refused laws (suc deep) image totals a b bytes number (inr p) (inl q) = absurd (own_never laws image totals b p.1 p.2 p.0 q)
one_refused laws (suc deep) image totals a b bytes number (inr p) (inr q) =
    let same : q.1 ≡ p.1 = laws.volumes image.bytes q.1 p.1 q.2 p.2 in
    one_files_fault laws (Holds deep) (IsRefused deep) (one_held laws deep) (never_refused laws deep) (one_refused laws deep) image (with_volume totals) p.1.files a b bytes p.3
    (subst (λ (v : Volume). IsFilesFault (IsRefused deep) (Holds deep) image (with_volume totals) v.files b) same q.3)

-- a volume that has its place does not lack it
placed_or_not : Laws → (plan : Plan) (held : Holding) (volume : PlanVolume) (bytes : List ℕ) (a b : Volume) → IsVolume bytes a → IsVolume bytes b
    → has_place plan held.volumes volume.base a.len ≡ false → has_place plan held.volumes volume.base b.len ≡ true → ⊥
placed_or_not laws plan held volume bytes a b p q out placed =
    let same : a ≡ b = laws.volumes bytes a b p q in
    true≢false (sym placed ∙ sym (ap (λ (v : Volume). has_place plan held.volumes volume.base v.len) same) ∙ out)

one_plan_volume : Laws → (plan : Plan) (held : Holding) (volume : PlanVolume) (bytes : List ℕ) (a b : FaultAt) → AreBytes bytes → IsPlanVolumeFault plan held volume bytes a
    → IsPlanVolumeFault plan held volume bytes b → a ≡ b
one_plan_volume laws plan held volume bytes a b are p q = by p q
  where
    image : Image
    image = plan_image volume bytes (length held.volumes)

    totals : Totals
    totals = totals_with no_totals held

    Files : Volume → FaultAt → Type 0
    Files found fault = IsFilesFault (IsRefused 3) (Holds 3) image (with_volume totals) found.files fault

    by : IsPlanVolumeFault plan held volume bytes a → IsPlanVolumeFault plan held volume bytes b → a ≡ b
    by (inl f) (inl g) = one_own laws image totals a b f g
    by (inl f) (inr g) = absurd (own_never laws image totals a g.1 g.2 (omega (arith, g.0)) f)
    by (inr f) (inl g) = absurd (own_never laws image totals b f.1 f.2 (omega (arith, f.0)) g)
    by (inr (few, found, is, inl f)) (inr (few', found', is', inl g)) = f.1 ∙ sym g.1
    by (inr (few, found, is, inl f)) (inr (few', found', is', inr g)) = absurd (placed_or_not laws plan held volume bytes found found' is is' f.0 g.0)
    by (inr (few, found, is, inr f)) (inr (few', found', is', inl g)) = absurd (placed_or_not laws plan held volume bytes found' found is' is g.0 f.0)
    by (inr (few, found, is, inr f)) (inr (few', found', is', inr g)) =
        let same : found' ≡ found = laws.volumes bytes found' found is' is in
        one_files_fault laws (Holds 3) (IsRefused 3) (one_held laws 3) (never_refused laws 3) (one_refused laws 3) image (with_volume totals) found.files a b are f.1
        (subst (λ v. Files v b) same g.1)

-- one of two faults and its place among the volumes of the plan
abbrev pub SameFault : List PlanVolume → FaultAt → List PlanVolume → FaultAt → Type 0
SameFault vs a ws b = (length vs ≡ length ws) × (a ≡ b)

-- a volume of a fault is none of those that are sound
plan_before : Laws → (plan : Plan) (held : Holding) (volume v : PlanVolume) (bytes x : List ℕ) (vs : List PlanVolume) (xs : List (List ℕ)) (holding : Holding) (fault : FaultAt)
    → AreBytes bytes → volume ≡ v → bytes ≡ x → PlanHolds plan held (v ∷ vs) (x ∷ xs) holding → AreWithin (totals_with no_totals holding) → IsPlanVolumeFault plan held volume bytes fault → ⊥
plan_before laws plan held volume v bytes x vs xs holding fault are same_volume same_bytes sound within wrong =
    let pair : ◌≡◌ {A = PlanVolume × List ℕ} (v, x) (volume, bytes) = cc in
    let P : PlanVolume × List ℕ → Type 0 = λ s. PlanHolds plan held (s.0 ∷ vs) (s.1 ∷ xs) holding in
    let is = subst P pair sound in
    plan_volume_never laws plan held volume bytes fault is.0 are (plan_grows plan (joined held is.0) vs xs holding is.3 within) is.1 is.2 wrong

one_plan : Laws → (plan : Plan) (held : Holding) (vs : List PlanVolume) (xs : List (List ℕ)) (v : PlanVolume) (vs' : List PlanVolume) (x : List ℕ) (xs' : List (List ℕ)) (f : Holding)
    (ws : List PlanVolume) (ys : List (List ℕ)) (w : PlanVolume) (ws' : List PlanVolume) (y : List ℕ) (ys' : List (List ℕ)) (g : Holding) (a b : FaultAt)
    → vs ++ v ∷ vs' ≡ ws ++ w ∷ ws' → xs ++ x ∷ xs' ≡ ys ++ y ∷ ys' → Each AreBytes (xs ++ x ∷ xs') → Each AreBytes (ys ++ y ∷ ys')
    → PlanHolds plan held vs xs f → AreWithin (totals_with no_totals f) → PlanHolds plan held ws ys g → AreWithin (totals_with no_totals g)
    → IsPlanVolumeFault plan f v x a → IsPlanVolumeFault plan g w y b → SameFault vs a ws b
one_plan laws plan held [] [] v vs' x xs' f [] [] w ws' y ys' g a b volumes images are also p within q also_within wrong wrong' =
    let volume : v ≡ w = ap (head_or v) volumes in
    let bytes : x ≡ y = ap (head_or x) images in
    let P : Holding × PlanVolume × List ℕ → Type 0 = λ s. IsPlanVolumeFault plan s.0 s.1 s.2 b in
    let three : ◌≡◌ {A = Holding × PlanVolume × List ℕ} (g, w, y) (f, v, x) = cc in
    (refl, one_plan_volume laws plan f v x a b are.0 wrong (subst P three wrong'))
one_plan laws plan held [] [] v vs' x xs' f (w' ∷ ws) (y' ∷ ys) w ws' y ys' g a b volumes images are also p within q also_within wrong wrong' =
    absurd (plan_before laws plan held v w' x y' ws ys g a are.0 (ap (head_or v) volumes) (ap (head_or x) images) q also_within (subst (λ h. IsPlanVolumeFault plan h v x a) p wrong))
one_plan laws plan held (v' ∷ vs) (x' ∷ xs) v vs' x xs' f [] [] w ws' y ys' g a b volumes images are also p within q also_within wrong wrong' =
    absurd (plan_before laws plan held w v' y x' vs xs f b also.0 (sym (ap (head_or v') volumes)) (sym (ap (head_or x') images)) p within (subst (λ h. IsPlanVolumeFault plan h w y b) q wrong'))
one_plan laws plan held (v' ∷ vs) (x' ∷ xs) v vs' x xs' f (w' ∷ ws) (y' ∷ ys) w ws' y ys' g a b volumes images are also p within q also_within wrong wrong' =
    let volume : w' ≡ v' = sym (ap (head_or v') volumes) in
    let bytes : y' ≡ x' = sym (ap (head_or x') images) in
    let pair : ◌≡◌ {A = PlanVolume × List ℕ} (w', y') (v', x') = cc in
    let P : PlanVolume × List ℕ → Type 0 = λ s. PlanHolds plan held (s.0 ∷ ws) (s.1 ∷ ys) g in
    let r = subst P pair q in
    let same : r.0 ≡ p.0 = one_held laws MOST_DEPTH (plan_image v' x' (length held.volumes)) r.0 p.0 r.1 p.1 in
    let rest = one_plan laws plan (joined held p.0) vs xs v vs' x xs' f ws ys w ws' y ys' g a b (ap tail_of volumes) (ap tail_of images) are.1 also.1 p.3 within
    (subst (λ h. PlanHolds plan (joined held h) ws ys g) same r.3) also_within wrong wrong' in
    (ap suc rest.0, rest.1)
one_plan laws plan held [] (x' ∷ xs) v vs' x xs' f ws ys w ws' y ys' g a b volumes images are also p within q also_within wrong wrong' = absurd p
one_plan laws plan held (v' ∷ vs) [] v vs' x xs' f ws ys w ws' y ys' g a b volumes images are also p within q also_within wrong wrong' = absurd p
one_plan laws plan held vs xs v vs' x xs' f [] (y' ∷ ys) w ws' y ys' g a b volumes images are also p within q also_within wrong wrong' = absurd q
one_plan laws plan held vs xs v vs' x xs' f (w' ∷ ws) [] w ws' y ys' g a b volumes images are also p within q also_within wrong wrong' = absurd q

pub one_image_fault : Laws → (plan : Plan) (images : List (List ℕ)) (a b : ImageFault) → Each AreBytes images → IsImageFault plan images a → IsImageFault plan images b → a ≡ b
one_image_fault laws plan images a b are f g =
    let same = one_plan laws plan nothing f.volumes_before f.images_before f.volume f.volumes_behind f.bytes f.images_behind f.held
    g.volumes_before g.images_before g.volume g.volumes_behind g.bytes g.images_behind g.held
    (record { at = a.at; cause = a.cause }) (record { at = b.at; cause = b.cause })
    (sym f.volumes ∙ g.volumes) (sym f.images_are ∙ g.images_are) (subst (Each AreBytes) f.images_are are) (subst (Each AreBytes) g.images_are are) f.sound f.within g.sound g.within f.first g.first in
    let number : a.volume ≡ b.volume = f.number ∙ same.0 ∙ sym g.number in
    let at : a.at ≡ b.at = ap (λ (x : FaultAt). x.at) same.1 in
    let cause : a.cause ≡ b.cause = ap (λ (x : FaultAt). x.cause) same.1 in
    let of : ℕ × ℕ × ImageCause → ImageFault = λ x. record { volume = x.0; at = x.1; cause = x.2 } in
    let three : ◌≡◌ {A = ℕ × ℕ × ImageCause} (a.volume, a.at, a.cause) (b.volume, b.at, b.cause) = cc in
    ap of three

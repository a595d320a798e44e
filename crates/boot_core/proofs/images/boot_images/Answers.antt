use Rattle.std.proofs.Common.{refl, subst}
use Rattle.std.specs.Prelude.{⊤}
use Rattle.mod_catalog.specs.declared.catalogue.Catalog.{Catalog}
use Rattle.boot_model.specs.PlanBoard.{board_of}
use Rattle.boot_core.specs.{declared.command_line.Command.TheVariants.Boot, Examining.AreRefused, Examining.IsExamined}
use Rattle.boot_core.specs.Outcome.{BootOutcome, CommandOutcome, ImagesOutcome, images_sound, kind_of}
use Rattle.boot_core.specs.Wanting.{IsWantedOutsidePei}
use Rattle.boot_core.proofs.{Ending.ends_up, Wanted.refused_outside}
use Rattle.boot_core.proofs.Examined.{image_refused_ends, none_ran, of_catalogue}
use Rattle.boot_core.proofs.images.boot_images.Goals as goal

pub returns-in-Ok-clause-ends : goal.returns-in-Ok-clause-ends
returns-in-Ok-clause-ends g c =
    let plan = c.args.plan.now in
    let images = c.args.images in
    let catalog = c.in-Ok.catalog in
    let examined : IsExamined plan images catalog = subst (λ x. IsExamined plan x catalog) c.as_slice.ensures c.in-Ok.ensures.found in
    ends_up (kind_of c.boot_catalog-booted.result.status) (BootOutcome plan catalog images) (ImagesOutcome (CommandOutcome Boot plan images) plan images) (λ _. ⊥) ⊤ ⊤ c.boot_catalog-booted.result.status _
    (λ s t o. images_sound catalog examined.sound o) (λ b. b) refl c.boot_catalog-booted.ensures.ends

pub returns-in-Ok-clause-store : goal.returns-in-Ok-clause-store
returns-in-Ok-clause-store g c =
    let plan = c.args.plan.now in
    let images = c.args.images in
    let catalog = c.in-Ok.catalog in
    let examined : IsExamined plan images catalog = subst (λ x. IsExamined plan x catalog) c.as_slice.ensures c.in-Ok.ensures.found in
    of_catalogue c.one_catalogue.ensures.catalogues plan images catalog c.boot_catalog-booted.result examined.sound c.boot_catalog-booted.ensures.store

pub returns-in-Ok-clause-memory : goal.returns-in-Ok-clause-memory
returns-in-Ok-clause-memory g c = λ catalog sound.
    let T = g.S.Sink.text in
    let plan = c.args.plan.now in
    let images = c.args.images in
    let examined : IsExamined plan images c.in-Ok.catalog = subst (λ x. IsExamined plan x c.in-Ok.catalog) c.as_slice.ensures c.in-Ok.ensures.found in
    let kind = kind_of c.boot_catalog-booted.result.status in
    let P : Catalog → Type 0 = λ x. IsWantedOutsidePei kind (board_of plan x images) x plan.fuel (record { old = T c.args.sink.now; new = T c.boot_catalog-booted.new.sink }) in
    subst P (c.one_catalogue.ensures.catalogues plan images c.in-Ok.catalog catalog examined.sound sound) c.boot_catalog-booted.ensures.memory

pub returns-in-Err-clause-ends : goal.returns-in-Err-clause-ends
returns-in-Err-clause-ends g c =
    let plan = c.args.plan.now in
    let images = c.args.images in
    let refused : AreRefused plan images c.in-Err.no_catalog = subst (λ x. AreRefused plan x c.in-Err.no_catalog) c.as_slice.ensures c.in-Err.ensures.refused in
    image_refused_ends (CommandOutcome Boot plan images) plan images c.in-Err.no_catalog ⊤ c.refuse.result _ refused c.refuse.ensures

pub returns-in-Err-clause-store : goal.returns-in-Err-clause-store
returns-in-Err-clause-store g c =
    let none = none_ran c.args.plan.now c.as_slice.result.now c.in-Err.no_catalog c.refuse.result _ c.in-Err.ensures.refused c.refuse.ensures in
    record { where_ran = none; stands = λ catalog sound. tt }

pub returns-in-Err-clause-memory : goal.returns-in-Err-clause-memory
returns-in-Err-clause-memory g c = λ catalog sound.
    let plan = c.args.plan.now in
    let images = c.as_slice.result.now in
    let Leads = CommandOutcome Boot plan images in
    refused_outside (kind_of c.refuse.result) (ImagesOutcome Leads plan images) c.refuse.result _ (board_of plan catalog c.args.images) catalog plan.fuel
    (image_refused_ends Leads plan images c.in-Err.no_catalog ⊥ c.refuse.result _ c.in-Err.ensures.refused c.refuse.ensures)

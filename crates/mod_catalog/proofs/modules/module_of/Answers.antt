use Rattle.std.proofs.Common.{refl}
use Rattle.pi_base.specs.declared.phase.Phase.TheVariants.{Pei, Dxe}
use Rattle.mod_catalog.specs.{FileType.has_part, APrioriNames.a_priori_list}
use Rattle.mod_catalog.proofs.PartFacts.{part_is}
use Rattle.mod_catalog.proofs.modules.module_of.Goals as goal

pub returns : goal.returns
returns c = λ files reads hold.
    let bytes = c.args.bytes.now in
    let read = c.args.read in
    record {
      volume = refl;
      at = refl;
      name = refl;
      kind = refl;
      pei = part_is bytes files reads read Pei (has_part Pei read.file.kind) _ _ c.in_ok-pei.pei c.as_slice-sections.ensures c.part_scripts-pei.ensures.pei
          (c.in_ok-pei.ensures files (a_priori_list bytes files reads Pei) hold.pei);
      dxe = part_is bytes files reads read Dxe (has_part Dxe read.file.kind) _ _ c.in_ok-dxe.dxe c.as_slice-sections.ensures c.part_scripts-pei.ensures.dxe
          (c.in_ok-dxe.ensures files (a_priori_list bytes files reads Dxe) hold.dxe);
    }

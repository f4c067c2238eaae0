use Rattle.std.proofs.Common.{ap, sym, ◌∙◌, subst}
use Rattle.pack_geometry.specs.declared.DriveKind.{DriveKind}
use Rattle.pack_geometry.specs.declared.Place.{Place}
use Rattle.pack_geometry.specs.Geometry.{IsInside, track_and_sector}
use Rattle.hardware_table.specs.Drive.{DriveState}
use Rattle.pack_format.proofs.testing.BeginLaws.{addressed, named}
use Rattle.pack_format.proofs.testing.station.aim.Goals as goal

pub name-requires : goal.name-requires
name-requires c = subst (λ (kind : DriveKind). IsInside kind c.place_of.result) (sym c.requires.good.kind_is) c.place_of.ensures.inside

pub seek-requires : goal.seek-requires
seek-requires c =
    let good = named c.args.kind c.args.drive.now c.name.new.drive c.place_of.result c.requires.good c.name.ensures in record {
      good = good;
      addressed = addressed c.args.kind c.name.new.drive c.place_of.result good.kind_is (ap (λ (d : DriveState). d.dc) c.name.ensures) (ap (λ (d : DriveState). d.da) c.name.ensures)
          c.place_of.ensures.inside;
    }

pub returns : goal.returns
returns c =
    let cylinder = ap (λ (d : DriveState). d.dc) c.name.ensures in
    let track = ap (λ (d : DriveState). d.da) c.name.ensures in
    let place = c.place_of.ensures.place in record {
      good = c.seek.ensures.good;
      addressed = addressed c.args.kind c.seek.new.drive c.place_of.result c.seek.ensures.good.kind_is (c.seek.ensures.address.0 ∙ cylinder) (c.seek.ensures.address.1 ∙ track)
          c.place_of.ensures.inside;
      aimed = record {
        cylinder = c.seek.ensures.address.0 ∙ cylinder ∙ ap (λ (p : Place). p.cylinder) place;
        track_and_sector = c.seek.ensures.address.1 ∙ track ∙ ap track_and_sector place;
        heads = c.seek.ensures.heads ∙ cylinder ∙ ap (λ (p : Place). p.cylinder) place;
      };
    }

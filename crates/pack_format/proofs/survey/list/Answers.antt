use Rattle.std.proofs.Common.{ap, subst}
use Rattle.pack_geometry.specs.TableSpelling.{Table}
use Rattle.pack_geometry.specs.declared.Place.{Place}
use Rattle.bad144_table.specs.Inserts.{Inserts, IsRefused}
use Rattle.pack_format.proofs.SurveyLaws.{survey_more, survey_refused}
use Rattle.pack_format.proofs.survey.list.Goals as goal

pub returns-in-Ok-clause-survey : goal.returns-in-Ok-clause-survey
returns-in-Ok-clause-survey c = λ serial number pack survey marked few.
    survey_more c.args.kind serial pack c.args.block number c.args.table.now c.insert.new.table c.in-Ok.field-0 survey marked few
    (subst (λ (p : Place). Inserts c.args.table.now c.insert.new.table p c.in-Ok.field-0) c.place_of.ensures.place c.in-Ok.ensures.ok)

pub returns-in-Ok-clause-serial : goal.returns-in-Ok-clause-serial
returns-in-Ok-clause-serial c = ap (λ (t : Table). t.serial) c.in-Ok.ensures.ok.changed

pub returns-in-Err-clause-serial : goal.returns-in-Err-clause-serial
returns-in-Err-clause-serial c = ap (λ (t : Table). t.serial) c.in-Err.ensures.unchanged

pub returns-in-Err-clause-survey : goal.returns-in-Err-clause-survey
returns-in-Err-clause-survey c = λ serial number pack survey marked few.
    absurd (survey_refused c.args.kind serial pack c.args.block number c.args.table.now c.in-Err.field-0 survey c.requires.data_block few
    (subst (λ (p : Place). IsRefused c.args.table.now p c.in-Err.field-0) c.place_of.ensures.place c.in-Err.ensures.refused))

use Rattle.script_reader.specs.Meaning.{meaning_of}
use Rattle.event_player.proofs.Played.{plays_over, never_before, rest_loans}
use Rattle.event_player.proofs.play.play_all.Goals as goal

pub play_lines-played-requires-clause-starts : goal.play_lines-played-requires-clause-starts
play_lines-played-requires-clause-starts g c = c.requires.begins.start

pub returns : goal.returns
returns g c =
    let lines = c.play_lines-played.ensures in
    let sends = c.send_rest.ensures in
    record {
      plays = plays_over (meaning_of c.args.script.now) _ c.requires.begins _ _ c.play_lines-played.result (c.meaning_law.ensures.read c.args.script.now.text c.args.script.now c.requires.good) lines.turns lines.tally
          sends.sends sends.same;
      begun = never_before lines.turns;
      loans = rest_loans (meaning_of c.args.script.now) _ c.requires.begins _ _ c.play_lines-played.result lines.turns sends.sends sends.same;
    }

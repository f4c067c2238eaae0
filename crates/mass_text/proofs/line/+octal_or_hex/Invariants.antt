use Rattle.mass_text.proofs.line.+octal_or_hex.Given as goal

abbrev pub decreases-octal_or_hex : goal.decreases-octal_or_hex
decreases-octal_or_hex l = l.value

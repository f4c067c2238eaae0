-- A run that was begun is so wherever it is cut.
use Rattle.std.proofs.Common.{◌≡◌, ℕ, List, [], ◌∷◌, ◌++◌, Option, refl, sym, ap, subst, append_assoc, rules}
use Rattle.pack_geometry.specs.Pack as model
use Rattle.pack_geometry.specs.TableSpelling.{Table}
use Rattle.trace_replay.specs.Script.{Script, Numbered, drives_of}
use Rattle.trace_replay.specs.Moments.{Moment, Played, Told, Idle, played}
use Rattle.trace_replay.specs.Runs.{start_of}
use Rattle.trace_replay.proofs.Following.{follow_on}
use Rattle.driver_laws.specs.rules.Beginnings.{IsBegun, BeginningsKeep, FrontsKeep}
use Rattle.driver_laws.proofs.rules.Quiet.{quiet_moments_keep}

pub played_append : (xs ys : List Moment) → played (xs ++ ys) ≡ played xs ++ played ys
played_append [] ys = refl
played_append (Played line input ∷ xs) ys = ap (λ (ns : List Numbered). record { line = line; input = input } ∷ ns) (played_append xs ys)
played_append (Told line unit id deed ∷ xs) ys = played_append xs ys
played_append (Idle line ∷ xs) ys = played_append xs ys

pub begun_front : (script : Script) (tables : ℕ → Option Table) (old : ℕ → model.Pack) (ms rest : List Moment) → IsBegun script tables old (ms ++ rest) → IsBegun script tables old ms
begun_front script tables old ms rest begun = search (rules, played_append, append_assoc, follow_on)

pub fronts_keep : BeginningsKeep → FrontsKeep
fronts_keep keep script tables old new ms front rest begun none left =
    keep script tables old new (ms ++ front)
    (begun_front script tables old (ms ++ front) rest (subst (IsBegun script tables old) (sym (append_assoc ms front rest)) begun))
    (quiet_moments_keep (drives_of script) old new (start_of script tables old) ms front none left)

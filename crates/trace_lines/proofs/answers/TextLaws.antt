-- The answer text.
use Rattle.std.proofs.Common.{◌≡◌, ℕ, ◌+◌, ◌<◌, List, [], ◌∷◌, ◌++◌, length, take, sym, ap, ◌∙◌, arith, append-nil, append_assoc, slice_index_or}
use Rattle.std.proofs.lemmas.List.{take_more, length-take-le}
use Rattle.fire_code.specs.Noise.{IsNoise, Classes}
use Rattle.fire_code.specs.declared.NoiseClass.{NoiseClass}
use Rattle.hardware_table.specs.Noise.{LiveNoise}
use Rattle.trace_replay.specs.requests.Requests.{ReadOk}
use Rattle.trace_replay.specs.Script.{Noise}
use Rattle.trace_replay.specs.Moments.{Played}
use Rattle.trace_lines.specs.answers.AnswerText.{answer_line, answer_text, block_text, block_texts, noise_text, said_text}
use Rattle.trace_lines.specs.answers.Blocks.{AreBlocks, joined}
use Rattle.trace_lines.proofs.answers.BlockLaws.{blocks_in-joined}
use Rattle.trace_lines.proofs.answers.ClassLaws.{class_of-is}

-- a read that gives blocks
pub blocks_said : (line id : ℕ) (blocks : List (List ℕ)) → AreBlocks 512 blocks
    → answer_text (record { line = line; id = id; answer = ReadOk (joined blocks) }) ≡ answer_line line id (ReadOk (joined blocks)) ++ block_texts 0 blocks
blocks_said line id blocks are = ap (λ (bs : List (List ℕ)). answer_line line id (ReadOk (joined blocks)) ++ block_texts 0 bs) (blocks_in-joined blocks are)

-- one more block behind others
block_texts-push : (k : ℕ) (blocks : List (List ℕ)) (block : List ℕ) → block_texts k (blocks ++ block ∷ []) ≡ block_texts k blocks ++ block_text (k + length blocks) block
block_texts-push k [] block =
    let here : k ≡ k + 0 = omega arith in
    append-nil (block_text k block) ∙ ap (λ (n : ℕ). block_text n block) here
block_texts-push k (b ∷ blocks) block =
    let here : (k + 1) + length blocks ≡ k + length (b ∷ blocks) = omega arith in
    ap (λ (text : List ℕ). block_text k b ++ text) (block_texts-push (k + 1) blocks block ∙ ap (λ (n : ℕ). block_texts (k + 1) blocks ++ block_text n block) here)
    ∙ sym (append_assoc (block_text k b) (block_texts (k + 1) blocks) (block_text (k + length (b ∷ blocks)) block))

pub one_more : (blocks : List (List ℕ)) (k : ℕ) → k < length blocks → block_texts 0 (take (k + 1) blocks) ≡ block_texts 0 (take k blocks) ++ block_text k (slice_index_or blocks k [])
one_more blocks k lt =
    let size : 0 + length (take k blocks) ≡ k = omega (arith, length-take-le k blocks (omega arith)) in
    ap (λ (bs : List (List ℕ)). block_texts 0 bs) (take_more blocks k [] lt)
    ∙ block_texts-push 0 (take k blocks) (slice_index_or blocks k [])
    ∙ ap (λ (n : ℕ). block_texts 0 (take k blocks) ++ block_text n (slice_index_or blocks k [])) size

-- the line of noise, by the class that it has
pub noise_said : (line : ℕ) (class : NoiseClass) (noise : LiveNoise) (text : List ℕ) → text ≡ noise_text line class → IsNoise noise.places → Classes class noise.places
    → text ≡ said_text (Played line (Noise noise))
noise_said line class noise text is places has = is ∙ ap (λ (c : NoiseClass). noise_text line c) (sym (class_of-is noise.places class places has))

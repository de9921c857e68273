-- Replies, put together from their parts.
use Rattle.std.proofs.Common.{◌≡◌, ℕ, ◌+◌, List, [], ◌∷◌, ◌++◌, length, sym, ap, ◌∙◌, append_assoc, length-append}
use Rattle.std.specs.Prelude.{Bool, Option}
use Rattle.tb_wire.specs.declared.replies.Allow.{Allow}
use Rattle.tb_wire.specs.Replies.{head_text, rendered}

-- a head for a line and the byte that ends it, and then these
pub line-rendered : (code last : ℕ) (line : List ℕ) (allow : Option Allow) (close : Bool) (head more all : List ℕ)
    → head ≡ head_text code (length line + 1) allow close
    → more ≡ head ++ line
    → all ≡ more ++ last ∷ []
    → all ≡ rendered code (line ++ last ∷ []) allow close
line-rendered code last line allow close head more all is then ends =
    ends
    ∙ ap (λ (l : List ℕ). l ++ last ∷ []) then
    ∙ append_assoc head line (last ∷ [])
    ∙ ap (λ (l : List ℕ). l ++ (line ++ last ∷ [])) (is
    ∙ ap (λ (n : ℕ). head_text code n allow close) (sym (length-append line (last ∷ []))))

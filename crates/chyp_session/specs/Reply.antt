-- The texts of replies.
use Rattle.std.specs.Prelude.{ℕ, List, [], ◌∷◌, ◌++◌, codes, decimal}
use Rattle.chyp_session.specs.declared.reply.Reply.{Reply}
use Rattle.chyp_session.specs.declared.reply.Reply.TheVariants.{Total}

-- `total T good G`
abbrev pub reply_text : Reply → List ℕ
reply_text (Total total good) = codes "total " ++ decimal total ++ codes " good " ++ decimal good ++ 10 ∷ []

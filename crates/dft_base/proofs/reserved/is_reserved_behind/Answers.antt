-- What each arm looks through are the words with its letter in front.
use Rattle.std.proofs.Common.{◌≡◌, ◌∷◌, ap, sym, ◌∙◌, arith}
use Rattle.dft_base.specs.Words.{is_reserved, reserved_words}
use Rattle.dft_base.proofs.ReservedLemmas.{unreserved}
use Rattle.dft_base.proofs.reserved.is_reserved_behind.Goals as goal

pub returns-in-97 : goal.returns-in-97
unfolding reserved_words
returns-in-97 c = c.is_among.ensures ∙ ap (λ b. is_reserved (b ∷ c.args.behind.now)) (sym c.in-97.is)

pub returns-in-98 : goal.returns-in-98
unfolding reserved_words
returns-in-98 c = c.is_among-in-98.ensures ∙ ap (λ b. is_reserved (b ∷ c.args.behind.now)) (sym c.in-98.is)

pub returns-in-99 : goal.returns-in-99
unfolding reserved_words
returns-in-99 c = c.is_among-in-99.ensures ∙ ap (λ b. is_reserved (b ∷ c.args.behind.now)) (sym c.in-99.is)

pub returns-in-100 : goal.returns-in-100
unfolding reserved_words
returns-in-100 c = c.is_among-in-100.ensures ∙ ap (λ b. is_reserved (b ∷ c.args.behind.now)) (sym c.in-100.is)

pub returns-in-101 : goal.returns-in-101
unfolding reserved_words
returns-in-101 c = c.is_among-in-101.ensures ∙ ap (λ b. is_reserved (b ∷ c.args.behind.now)) (sym c.in-101.is)

pub returns-in-102 : goal.returns-in-102
unfolding reserved_words
returns-in-102 c = c.is_among-in-102.ensures ∙ ap (λ b. is_reserved (b ∷ c.args.behind.now)) (sym c.in-102.is)

pub returns-in-103 : goal.returns-in-103
unfolding reserved_words
returns-in-103 c = c.is_among-in-103.ensures ∙ ap (λ b. is_reserved (b ∷ c.args.behind.now)) (sym c.in-103.is)

pub returns-in-104 : goal.returns-in-104
unfolding reserved_words
returns-in-104 c = c.is_among-in-104.ensures ∙ ap (λ b. is_reserved (b ∷ c.args.behind.now)) (sym c.in-104.is)

pub returns-in-105 : goal.returns-in-105
unfolding reserved_words
returns-in-105 c = c.is_among-in-105.ensures ∙ ap (λ b. is_reserved (b ∷ c.args.behind.now)) (sym c.in-105.is)

pub returns-in-106 : goal.returns-in-106
unfolding reserved_words
returns-in-106 c = c.is_among-in-106.ensures ∙ ap (λ b. is_reserved (b ∷ c.args.behind.now)) (sym c.in-106.is)

pub returns-in-108 : goal.returns-in-108
unfolding reserved_words
returns-in-108 c = c.is_among-in-108.ensures ∙ ap (λ b. is_reserved (b ∷ c.args.behind.now)) (sym c.in-108.is)

pub returns-in-109 : goal.returns-in-109
unfolding reserved_words
returns-in-109 c = c.is_among-in-109.ensures ∙ ap (λ b. is_reserved (b ∷ c.args.behind.now)) (sym c.in-109.is)

pub returns-in-110 : goal.returns-in-110
unfolding reserved_words
returns-in-110 c = c.is_among-in-110.ensures ∙ ap (λ b. is_reserved (b ∷ c.args.behind.now)) (sym c.in-110.is)

pub returns-in-111 : goal.returns-in-111
unfolding reserved_words
returns-in-111 c = c.is_among-in-111.ensures ∙ ap (λ b. is_reserved (b ∷ c.args.behind.now)) (sym c.in-111.is)

pub returns-in-112 : goal.returns-in-112
unfolding reserved_words
returns-in-112 c = c.is_among-in-112.ensures ∙ ap (λ b. is_reserved (b ∷ c.args.behind.now)) (sym c.in-112.is)

pub returns-in-114 : goal.returns-in-114
unfolding reserved_words
returns-in-114 c = c.is_among-in-114.ensures ∙ ap (λ b. is_reserved (b ∷ c.args.behind.now)) (sym c.in-114.is)

pub returns-in-115 : goal.returns-in-115
unfolding reserved_words
returns-in-115 c = c.is_among-in-115.ensures ∙ ap (λ b. is_reserved (b ∷ c.args.behind.now)) (sym c.in-115.is)

pub returns-in-116 : goal.returns-in-116
unfolding reserved_words
returns-in-116 c = c.is_among-in-116.ensures ∙ ap (λ b. is_reserved (b ∷ c.args.behind.now)) (sym c.in-116.is)

pub returns-in-117 : goal.returns-in-117
unfolding reserved_words
returns-in-117 c = c.is_among-in-117.ensures ∙ ap (λ b. is_reserved (b ∷ c.args.behind.now)) (sym c.in-117.is)

pub returns-in-118 : goal.returns-in-118
unfolding reserved_words
returns-in-118 c = c.is_among-in-118.ensures ∙ ap (λ b. is_reserved (b ∷ c.args.behind.now)) (sym c.in-118.is)

pub returns-in-119 : goal.returns-in-119
unfolding reserved_words
returns-in-119 c = c.is_among-in-119.ensures ∙ ap (λ b. is_reserved (b ∷ c.args.behind.now)) (sym c.in-119.is)

pub returns-in-120 : goal.returns-in-120
unfolding reserved_words
returns-in-120 c = c.is_among-in-120.ensures ∙ ap (λ b. is_reserved (b ∷ c.args.behind.now)) (sym c.in-120.is)

pub returns-in_default : goal.returns-in_default
returns-in_default c = sym (unreserved c.args.first c.args.behind.now (λ (e : c.args.first ≡ 97). omega arith) (λ (e : c.args.first ≡ 98). omega arith) (λ (e : c.args.first ≡ 99). omega arith) (λ (e : c.args.first ≡ 100). omega arith) (λ (e : c.args.first ≡ 101). omega arith) (λ (e : c.args.first ≡ 102). omega arith) (λ (e : c.args.first ≡ 103). omega arith) (λ (e : c.args.first ≡ 104). omega arith) (λ (e : c.args.first ≡ 105). omega arith) (λ (e : c.args.first ≡ 106). omega arith) (λ (e : c.args.first ≡ 108). omega arith) (λ (e : c.args.first ≡ 109). omega arith) (λ (e : c.args.first ≡ 110). omega arith) (λ (e : c.args.first ≡ 111). omega arith) (λ (e : c.args.first ≡ 112). omega arith) (λ (e : c.args.first ≡ 114). omega arith) (λ (e : c.args.first ≡ 115). omega arith) (λ (e : c.args.first ≡ 116). omega arith) (λ (e : c.args.first ≡ 117). omega arith) (λ (e : c.args.first ≡ 118). omega arith) (λ (e : c.args.first ≡ 119). omega arith) (λ (e : c.args.first ≡ 120). omega arith))

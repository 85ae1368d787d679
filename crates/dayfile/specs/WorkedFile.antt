-- A small day file and its answers, as they are read and written
use Rattle.std.specs.Prelude.{ℕ, List, [], ◌∷◌, ◌++◌, codes, flat_map}

-- Each line of the file, and the lines that answer it: every call, every letter of an answer, a Retail Order of each type, fills from the best price down, slips, all four identifiers, refusals, and each fault of a line. The header line is line 1, so these are lines 2 to 35.
abbrev pub worked_day : List (List ℕ × List ℕ)
worked_day =
    (codes "A,5,,,,,,", codes "2,A,,,\n")
    ∷ (codes "P,,,O,,,,", codes "3,P,,,\n")
    ∷ (codes "T,1,B,,10000,,300,", codes "4,T,,,\n")
    ∷ (codes "E,2,B,R,10015,,500,", codes "5,E,1,,500\n")
    ∷ (codes "E,3,B,R,10040,20,100,", codes "6,E,2,,100\n")
    ∷ (codes "R,5,S,1,10000,,800,", codes "7,F,2,10020,100\n7,F,1,10015,500\n7,R,3,,600\n7,K,3,,200\n")
    ∷ (codes "I,,,,,,,", codes "8,I,0,,\n")
    ∷ (codes "E,2,B,R,10015,,100,", codes "9,E,4,,100\n")
    ∷ (codes "I,,,,,,,", codes "10,I,1,,\n")
    ∷ (codes "R,5,S,3,10000,,300,", codes "11,F,4,10015,100\n11,R,5,,100\n11,S,5,,200\n")
    ∷ (codes "S,,,,,,201,5", codes "12,N,13,,\n")
    ∷ (codes "S,,,,,,50,5", codes "13,B,5,,50\n13,K,5,,150\n")
    ∷ (codes "S,,,,,,0,5", codes "14,N,11,,\n")
    ∷ (codes "X,1,,,,,,", codes "15,X,,,\n")
    ∷ (codes "L,1,,,,,,", codes "16,L,,,\n")
    ∷ (codes "E,4,S,H,10020,,10,", codes "17,E,6,,10\n")
    ∷ (codes "C,4,,,,,,6", codes "18,C,6,,10\n")
    ∷ (codes "T,2,S,,10050,,100,", codes "19,T,,,\n")
    ∷ (codes "E,6,S,R,10049,,10,", codes "20,E,7,,10\n")
    ∷ (codes "I,,,,,,,", codes "21,I,2,,\n")
    ∷ (codes "E,2,B,R,10015,,100,", codes "22,E,8,,100\n")
    ∷ (codes "I,,,,,,,", codes "23,I,3,,\n")
    ∷ (codes "R,5,S,1,10000,,100,", codes "24,F,8,10015,100\n24,R,9,,100\n")
    ∷ (codes "R,5,B,3,10050,,30,", codes "25,F,7,10049,10\n25,R,10,,10\n25,S,10,,20\n")
    ∷ (codes "S,,,,,,20,10", codes "26,B,10,,20\n")
    ∷ (codes "W,5,,,,,,", codes "27,W,,,\n")
    ∷ (codes "R,5,S,2,10000,,1,", codes "28,N,5,,\n")
    ∷ (codes "P,,,Q,,,,", codes "29,N,23,,5\n")
    ∷ (codes "", codes "30,N,21,,0\n")
    ∷ (codes "C,4,,,,,,", codes "31,N,22,,10\n")
    ∷ (codes "C,4,,,,,,1x", codes "32,N,24,,10\n")
    ∷ (codes "L,,,,,,,", codes "33,N,22,,3\n")
    ∷ (codes "P,,,O,,5,,", codes "34,N,22,,8\n")
    ∷ (codes "P,,,C,,,,", codes "35,P,,,\n")
    ∷ []

-- The last line is not ended.
abbrev pub worked_file : List ℕ
worked_file = codes "call,who,side,kind,price,offset,shares,ref" ++ flat_map (λ row. 10 ∷ row.0) worked_day

abbrev pub worked_answers : List ℕ
worked_answers = codes "line,code,ref,price,shares\n" ++ flat_map (λ row. row.1) worked_day

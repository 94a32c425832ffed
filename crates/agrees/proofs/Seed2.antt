-- 373 random events, and the answers of the second program, printed by tests/runs: the rules give the same. Assumes nothing.
use mathlib.Core.Path.{◌≡◌, refl}
use mathlib.Core.List.{List, [], ◌∷◌}
use Rattle.frame.specs.Shape.{reply_room}
use Rattle.rules.specs.declared.Seen.TheVariants.{Ignored, Lost, Recorded}
use Rattle.rules.specs.Box.{Event, frame, sighting, tick, Answer, refused, reply, seen, ok, fresh_box, run}
use Rattle.rules.proofs.Computed.{computed}

unfoldable pub events : List Event
events =
    frame (2 ∷ 0 ∷ 11 ∷ 2 ∷ 160 ∷ 128 ∷ 0 ∷ 0 ∷ 0 ∷ 156 ∷ 108 ∷ []) 0 ∷
    frame (2 ∷ 0 ∷ 11 ∷ 2 ∷ 160 ∷ 128 ∷ 0 ∷ 0 ∷ 0 ∷ 156 ∷ 108 ∷ []) reply_room ∷
    frame (6 ∷ 2 ∷ 128 ∷ 140 ∷ 171 ∷ 63 ∷ []) reply_room ∷ frame (2 ∷ 0 ∷ 11 ∷ 2 ∷ 160 ∷ 0 ∷ 0 ∷ 0 ∷ 0 ∷ 242 ∷ 65 ∷ []) reply_room ∷
    frame (6 ∷ 2 ∷ 128 ∷ 0 ∷ 207 ∷ 113 ∷ []) reply_room ∷
    frame (20 ∷ 2 ∷ 129 ∷ 192 ∷ 128 ∷ 0 ∷ 0 ∷ 0 ∷ 0 ∷ 0 ∷ 0 ∷ 0 ∷ 0 ∷ 0 ∷ 0 ∷ 0 ∷ 0 ∷ 0 ∷ 128 ∷ 112 ∷ []) reply_room ∷
    frame (2 ∷ 0 ∷ 22 ∷ 2 ∷ 129 ∷ 0 ∷ 128 ∷ 0 ∷ 0 ∷ 0 ∷ 0 ∷ 0 ∷ 0 ∷ 0 ∷ 0 ∷ 0 ∷ 0 ∷ 0 ∷ 0 ∷ 0 ∷ 232 ∷ 83 ∷ []) 1000 ∷
    frame (2 ∷ 0 ∷ 22 ∷ 2 ∷ 129 ∷ 128 ∷ 128 ∷ 0 ∷ 0 ∷ 0 ∷ 0 ∷ 0 ∷ 0 ∷ 0 ∷ 0 ∷ 0 ∷ 0 ∷ 0 ∷ 0 ∷ 0 ∷ 157 ∷ 108 ∷ []) 1000 ∷
    frame (9 ∷ 2 ∷ 160 ∷ 128 ∷ 0 ∷ 0 ∷ 0 ∷ 74 ∷ 253 ∷ []) reply_room ∷ frame (6 ∷ 2 ∷ 130 ∷ 64 ∷ 123 ∷ 0 ∷ []) reply_room ∷
    frame (2 ∷ 0 ∷ 11 ∷ 2 ∷ 160 ∷ 128 ∷ 0 ∷ 0 ∷ 0 ∷ 156 ∷ 108 ∷ []) reply_room ∷
    frame (2 ∷ 0 ∷ 11 ∷ 2 ∷ 160 ∷ 0 ∷ 0 ∷ 0 ∷ 0 ∷ 242 ∷ 65 ∷ []) 0 ∷
    frame (2 ∷ 0 ∷ 11 ∷ 2 ∷ 160 ∷ 0 ∷ 0 ∷ 0 ∷ 0 ∷ 242 ∷ 65 ∷ []) reply_room ∷
    frame (9 ∷ 3 ∷ 160 ∷ 0 ∷ 0 ∷ 0 ∷ 0 ∷ 15 ∷ 212 ∷ []) 1000 ∷
    frame (2 ∷ 0 ∷ 22 ∷ 3 ∷ 129 ∷ 12 ∷ 0 ∷ 115 ∷ 201 ∷ 124 ∷ 153 ∷ 180 ∷ 119 ∷ 122 ∷ 51 ∷ 234 ∷ 96 ∷ 98 ∷ 104 ∷ 174 ∷ 66 ∷ 188 ∷ []) reply_room ∷
    frame (6 ∷ 3 ∷ 130 ∷ 12 ∷ 207 ∷ 210 ∷ []) reply_room ∷ frame (5 ∷ 3 ∷ 99 ∷ 123 ∷ 123 ∷ []) reply_room ∷
    frame (2 ∷ 0 ∷ 11 ∷ 3 ∷ 160 ∷ 0 ∷ 0 ∷ 0 ∷ 0 ∷ 217 ∷ 69 ∷ []) reply_room ∷ frame (6 ∷ 3 ∷ 131 ∷ 140 ∷ 31 ∷ 79 ∷ []) reply_room ∷
    frame (6 ∷ 3 ∷ 128 ∷ 140 ∷ 119 ∷ 101 ∷ []) 1000 ∷ frame (6 ∷ 3 ∷ 82 ∷ 0 ∷ 152 ∷ 71 ∷ []) reply_room ∷
    frame (2 ∷ 0 ∷ 22 ∷ 3 ∷ 129 ∷ 140 ∷ 0 ∷ 2 ∷ 140 ∷ 238 ∷ 81 ∷ 36 ∷ 177 ∷ 215 ∷ 140 ∷ 98 ∷ 98 ∷ 231 ∷ 227 ∷ 85 ∷ 129 ∷ 78 ∷ []) reply_room ∷
    frame (5 ∷ 3 ∷ 99 ∷ 123 ∷ 123 ∷ []) reply_room ∷ sighting 3 0xE006000001645E37 2 ∷ sighting 3 0xE006000001645E37 255 ∷ tick ∷
    sighting 3 0xE006000001645E37 255 ∷ tick ∷ sighting 3 0xE006000001645E37 128 ∷
    frame (9 ∷ 3 ∷ 160 ∷ 0 ∷ 0 ∷ 0 ∷ 0 ∷ 15 ∷ 212 ∷ []) reply_room ∷
    frame (2 ∷ 0 ∷ 22 ∷ 3 ∷ 129 ∷ 140 ∷ 255 ∷ 255 ∷ 223 ∷ 5 ∷ 132 ∷ 174 ∷ 7 ∷ 56 ∷ 159 ∷ 136 ∷ 85 ∷ 231 ∷ 18 ∷ 140 ∷ 109 ∷ 168 ∷ []) reply_room ∷
    frame (2 ∷ 0 ∷ 7 ∷ 3 ∷ 99 ∷ 240 ∷ 209 ∷ []) reply_room ∷ sighting 3 0xE006000001645E37 255 ∷ sighting 3 0xE006000001645E37 128 ∷
    tick ∷ sighting 3 0xE006000001645E37 63 ∷ frame (2 ∷ 0 ∷ 11 ∷ 3 ∷ 160 ∷ 0 ∷ 0 ∷ 0 ∷ 0 ∷ 217 ∷ 69 ∷ []) 1000 ∷
    frame (6 ∷ 3 ∷ 131 ∷ 140 ∷ 31 ∷ 79 ∷ []) 1000 ∷ frame (5 ∷ 3 ∷ 99 ∷ 123 ∷ 123 ∷ []) 0 ∷
    frame (5 ∷ 3 ∷ 99 ∷ 123 ∷ 123 ∷ []) reply_room ∷ sighting 0 0xE007010001645E37 63 ∷
    frame (2 ∷ 0 ∷ 11 ∷ 0 ∷ 133 ∷ 23 ∷ 59 ∷ 0 ∷ 0 ∷ 233 ∷ 52 ∷ []) reply_room ∷ frame (5 ∷ 0 ∷ 100 ∷ 172 ∷ 37 ∷ []) reply_room ∷
    frame (5 ∷ 0 ∷ 49 ∷ 132 ∷ 32 ∷ []) 1000 ∷ frame (2 ∷ 0 ∷ 7 ∷ 0 ∷ 134 ∷ 59 ∷ 75 ∷ []) 1000 ∷
    frame (2 ∷ 0 ∷ 9 ∷ 0 ∷ 34 ∷ 0 ∷ 1 ∷ 90 ∷ 178 ∷ []) 1000 ∷ sighting 2 0xE007000101645E37 0 ∷ sighting 2 0xE007000101645E37 63 ∷
    sighting 2 0xE007000101645E37 255 ∷ tick ∷ frame (5 ∷ 7 ∷ 51 ∷ 158 ∷ []) reply_room ∷ frame (5 ∷ 7 ∷ 51 ∷ 158 ∷ 94 ∷ []) 1000 ∷
    frame (2 ∷ 0 ∷ 7 ∷ 8 ∷ 51 ∷ 221 ∷ 103 ∷ []) reply_room ∷ frame (5 ∷ 7 ∷ 52 ∷ 33 ∷ 58 ∷ []) reply_room ∷
    frame (6 ∷ 7 ∷ 134 ∷ 0 ∷ 162 ∷ 28 ∷ []) reply_room ∷ frame (6 ∷ 7 ∷ 82 ∷ 1 ∷ 112 ∷ 53 ∷ []) 1000 ∷
    sighting 5 0xE007000000645E37 128 ∷ sighting 5 0xE007000001655E37 255 ∷ sighting 5 0xE007000001645F37 63 ∷
    sighting 5 0xE007000001645E36 2 ∷ sighting 5 0xE207000001645E37 255 ∷ sighting 5 0xE005000001645E37 128 ∷
    sighting 5 0xE007020001645E37 2 ∷ sighting 5 0xE007000201645E37 63 ∷ sighting 5 0xE007000003645E37 255 ∷
    sighting 5 0xE007000001665E37 255 ∷ sighting 5 0xE007000001645C37 2 ∷ sighting 5 0xE007000001645E35 128 ∷
    sighting 5 0xE307000001645E37 255 ∷ sighting 5 0xE004000001645E37 63 ∷ sighting 5 0xE007030001645E37 63 ∷
    sighting 5 0xE007000301645E37 2 ∷ sighting 5 0xE007000002645E37 1 ∷ sighting 5 0xE007000001675E37 128 ∷
    sighting 5 0xE007000001645D37 128 ∷ sighting 5 0xE007000001645E34 255 ∷ sighting 5 0xE407000001645E37 2 ∷
    sighting 5 0xE003000001645E37 255 ∷ sighting 5 0xE007040001645E37 63 ∷ sighting 5 0xE007000401645E37 2 ∷
    sighting 5 0xE007000005645E37 255 ∷ sighting 5 0xE007000001605E37 1 ∷ sighting 5 0xE007000001645A37 255 ∷
    sighting 5 0xE007000001645E33 1 ∷ sighting 5 0xE507000001645E37 63 ∷ sighting 5 0xE002000001645E37 1 ∷
    sighting 5 0xE007050001645E37 1 ∷ sighting 5 0xE007000501645E37 63 ∷ sighting 5 0xE007000004645E37 2 ∷
    sighting 5 0xE007000001615E37 255 ∷ sighting 5 0xE007000001645B37 128 ∷ sighting 5 0xE007000001645E32 2 ∷
    sighting 5 0xE607000001645E37 128 ∷ sighting 5 0xE001000001645E37 1 ∷ sighting 5 0xE007060001645E37 2 ∷
    sighting 5 0xE007000601645E37 128 ∷ sighting 5 0xE007000007645E37 128 ∷ sighting 5 0xE007000001625E37 63 ∷
    sighting 5 0xE007000001645837 255 ∷ sighting 5 0xE007000001645E31 1 ∷ sighting 5 0xE707000001645E37 128 ∷
    sighting 5 0xE000000001645E37 128 ∷ sighting 5 0xE007070001645E37 255 ∷ sighting 5 0xE007000701645E37 255 ∷
    sighting 5 0xE007000006645E37 1 ∷ sighting 5 0xE007000001635E37 2 ∷ sighting 5 0xE007000001645937 2 ∷
    sighting 5 0xE007000001645E30 63 ∷ sighting 5 0xE807000001645E37 2 ∷ sighting 5 0xE00F000001645E37 1 ∷
    sighting 5 0xE007080001645E37 255 ∷ sighting 5 0xE007000801645E37 2 ∷ sighting 5 0xE007000009645E37 2 ∷
    sighting 5 0xE0070000016C5E37 63 ∷ sighting 5 0xE007000001645637 63 ∷ sighting 5 0xE007000001645E3F 128 ∷
    sighting 5 0xE907000001645E37 128 ∷ sighting 5 0xE00E000001645E37 1 ∷ sighting 5 0xE007090001645E37 128 ∷
    sighting 5 0xE007000901645E37 63 ∷ sighting 5 0xE007000008645E37 63 ∷ frame (7 ∷ 5 ∷ 34 ∷ 0 ∷ 64 ∷ 132 ∷ 154 ∷ []) 1000 ∷
    frame (5 ∷ 5 ∷ 50 ∷ 167 ∷ 108 ∷ []) reply_room ∷ frame (7 ∷ 5 ∷ 34 ∷ 0 ∷ 64 ∷ 132 ∷ 154 ∷ []) reply_room ∷
    frame (7 ∷ 5 ∷ 34 ∷ 0 ∷ 1 ∷ 9 ∷ 201 ∷ []) reply_room ∷ frame (2 ∷ 0 ∷ 7 ∷ 5 ∷ 51 ∷ 165 ∷ 215 ∷ []) 1000 ∷ frame ([]) 1000 ∷
    frame (2 ∷ []) reply_room ∷ frame (2 ∷ 0 ∷ []) reply_room ∷ frame (4 ∷ 0 ∷ 100 ∷ 0 ∷ []) 1000 ∷
    frame (2 ∷ 0 ∷ 6 ∷ 0 ∷ 51 ∷ 0 ∷ 0 ∷ []) reply_room ∷ frame (5 ∷ 7 ∷ 51 ∷ 158 ∷ 78 ∷ []) reply_room ∷
    frame (5 ∷ 7 ∷ 51 ∷ 158 ∷ 78 ∷ 0 ∷ []) 1000 ∷
    frame (5 ∷ 7 ∷ 51 ∷ 158 ∷ 78 ∷ 0 ∷ 0 ∷ 0 ∷ 0 ∷ 0 ∷ 0 ∷ 0 ∷ 0 ∷ 0 ∷ 0 ∷ 0 ∷ 0 ∷ 0 ∷ 0 ∷ 0 ∷ 0 ∷ 0 ∷ 0 ∷ 0 ∷ 0 ∷ 0 ∷ 0 ∷ 0 ∷ 0 ∷ 0 ∷ 0 ∷ 0 ∷ 0 ∷ 0 ∷ 0 ∷ 0 ∷ 0 ∷ 0 ∷ 0 ∷ 0 ∷ 0 ∷ 0 ∷ 0 ∷ 0 ∷ 0 ∷ 0 ∷ 0 ∷ 0 ∷ 0 ∷ 0 ∷ 0 ∷ 0 ∷ 0 ∷ 0 ∷ 0 ∷ 0 ∷ 0 ∷ 0 ∷ 0 ∷ 0 ∷ 0 ∷ 0 ∷ 0 ∷ 0 ∷ 0 ∷ 0 ∷ 0 ∷ 0 ∷ 0 ∷ 0 ∷ 0 ∷ 0 ∷ 0 ∷ 0 ∷ 0 ∷ 0 ∷ 0 ∷ 0 ∷ 0 ∷ 0 ∷ 0 ∷ 0 ∷ 0 ∷ 0 ∷ 0 ∷ 0 ∷ 0 ∷ 0 ∷ 0 ∷ 0 ∷ 0 ∷ 0 ∷ 0 ∷ 0 ∷ 0 ∷ 0 ∷ 0 ∷ 0 ∷ 0 ∷ 0 ∷ 0 ∷ 0 ∷ 0 ∷ 0 ∷ 0 ∷ 0 ∷ 0 ∷ 0 ∷ 0 ∷ 0 ∷ 0 ∷ 0 ∷ 0 ∷ 0 ∷ 0 ∷ 0 ∷ 0 ∷ 0 ∷ 0 ∷ 0 ∷ 0 ∷ 0 ∷ 0 ∷ 0 ∷ 0 ∷ 0 ∷ 0 ∷ 0 ∷ 0 ∷ 0 ∷ 0 ∷ 0 ∷ 0 ∷ 0 ∷ 0 ∷ 0 ∷ 0 ∷ 0 ∷ 0 ∷ 0 ∷ 0 ∷ 0 ∷ 0 ∷ 0 ∷ 0 ∷ 0 ∷ 0 ∷ 0 ∷ 0 ∷ 0 ∷ 0 ∷ 0 ∷ 0 ∷ 0 ∷ 0 ∷ 0 ∷ 0 ∷ 0 ∷ 0 ∷ 0 ∷ 0 ∷ 0 ∷ 0 ∷ 0 ∷ 0 ∷ 0 ∷ 0 ∷ 0 ∷ 0 ∷ 0 ∷ 0 ∷ 0 ∷ 0 ∷ 0 ∷ 0 ∷ 0 ∷ 0 ∷ 0 ∷ 0 ∷ 0 ∷ 0 ∷ 0 ∷ 0 ∷ 0 ∷ 0 ∷ 0 ∷ 0 ∷ 0 ∷ 0 ∷ 0 ∷ 0 ∷ 0 ∷ 0 ∷ 0 ∷ 0 ∷ 0 ∷ 0 ∷ 0 ∷ 0 ∷ 0 ∷ 0 ∷ 0 ∷ 0 ∷ 0 ∷ 0 ∷ 0 ∷ 0 ∷ 0 ∷ 0 ∷ 0 ∷ 0 ∷ 0 ∷ 0 ∷ 0 ∷ 0 ∷ 0 ∷ 0 ∷ 0 ∷ 0 ∷ 0 ∷ 0 ∷ 0 ∷ 0 ∷ 0 ∷ 0 ∷ 0 ∷ 0 ∷ 0 ∷ 0 ∷ 0 ∷ 0 ∷ 0 ∷ 0 ∷ 0 ∷ 0 ∷ 0 ∷ 0 ∷ 0 ∷ 0 ∷ 0 ∷ 0 ∷ 0 ∷ 0 ∷ 0 ∷ 0 ∷ 0 ∷ 0 ∷ 0 ∷ 0 ∷ 0 ∷ 0 ∷ 0 ∷ 0 ∷ 0 ∷ 0 ∷ []) reply_room ∷
    frame (5 ∷ 7 ∷ 51 ∷ 158 ∷ 78 ∷ 0 ∷ 0 ∷ 0 ∷ 0 ∷ 0 ∷ 0 ∷ 0 ∷ 0 ∷ 0 ∷ 0 ∷ 0 ∷ 0 ∷ 0 ∷ 0 ∷ 0 ∷ 0 ∷ 0 ∷ 0 ∷ 0 ∷ 0 ∷ 0 ∷ 0 ∷ 0 ∷ 0 ∷ 0 ∷ 0 ∷ 0 ∷ 0 ∷ 0 ∷ 0 ∷ 0 ∷ 0 ∷ 0 ∷ 0 ∷ 0 ∷ 0 ∷ 0 ∷ 0 ∷ 0 ∷ 0 ∷ 0 ∷ 0 ∷ 0 ∷ 0 ∷ 0 ∷ 0 ∷ 0 ∷ 0 ∷ 0 ∷ 0 ∷ 0 ∷ 0 ∷ 0 ∷ 0 ∷ 0 ∷ 0 ∷ 0 ∷ 0 ∷ 0 ∷ 0 ∷ 0 ∷ 0 ∷ 0 ∷ 0 ∷ 0 ∷ 0 ∷ 0 ∷ 0 ∷ 0 ∷ 0 ∷ 0 ∷ 0 ∷ 0 ∷ 0 ∷ 0 ∷ 0 ∷ 0 ∷ 0 ∷ 0 ∷ 0 ∷ 0 ∷ 0 ∷ 0 ∷ 0 ∷ 0 ∷ 0 ∷ 0 ∷ 0 ∷ 0 ∷ 0 ∷ 0 ∷ 0 ∷ 0 ∷ 0 ∷ 0 ∷ 0 ∷ 0 ∷ 0 ∷ 0 ∷ 0 ∷ 0 ∷ 0 ∷ 0 ∷ 0 ∷ 0 ∷ 0 ∷ 0 ∷ 0 ∷ 0 ∷ 0 ∷ 0 ∷ 0 ∷ 0 ∷ 0 ∷ 0 ∷ 0 ∷ 0 ∷ 0 ∷ 0 ∷ 0 ∷ 0 ∷ 0 ∷ 0 ∷ 0 ∷ 0 ∷ 0 ∷ 0 ∷ 0 ∷ 0 ∷ 0 ∷ 0 ∷ 0 ∷ 0 ∷ 0 ∷ 0 ∷ 0 ∷ 0 ∷ 0 ∷ 0 ∷ 0 ∷ 0 ∷ 0 ∷ 0 ∷ 0 ∷ 0 ∷ 0 ∷ 0 ∷ 0 ∷ 0 ∷ 0 ∷ 0 ∷ 0 ∷ 0 ∷ 0 ∷ 0 ∷ 0 ∷ 0 ∷ 0 ∷ 0 ∷ 0 ∷ 0 ∷ 0 ∷ 0 ∷ 0 ∷ 0 ∷ 0 ∷ 0 ∷ 0 ∷ 0 ∷ 0 ∷ 0 ∷ 0 ∷ 0 ∷ 0 ∷ 0 ∷ 0 ∷ 0 ∷ 0 ∷ 0 ∷ 0 ∷ 0 ∷ 0 ∷ 0 ∷ 0 ∷ 0 ∷ 0 ∷ 0 ∷ 0 ∷ 0 ∷ 0 ∷ 0 ∷ 0 ∷ 0 ∷ 0 ∷ 0 ∷ 0 ∷ 0 ∷ 0 ∷ 0 ∷ 0 ∷ 0 ∷ 0 ∷ 0 ∷ 0 ∷ 0 ∷ 0 ∷ 0 ∷ 0 ∷ 0 ∷ 0 ∷ 0 ∷ 0 ∷ 0 ∷ 0 ∷ 0 ∷ 0 ∷ 0 ∷ 0 ∷ 0 ∷ 0 ∷ 0 ∷ 0 ∷ 0 ∷ 0 ∷ 0 ∷ 0 ∷ 0 ∷ 0 ∷ 0 ∷ 0 ∷ 0 ∷ 0 ∷ 0 ∷ 0 ∷ 0 ∷ 0 ∷ 0 ∷ 0 ∷ 0 ∷ 0 ∷ 0 ∷ 0 ∷ 0 ∷ 0 ∷ 0 ∷ 0 ∷ 0 ∷ 0 ∷ 0 ∷ 0 ∷ 0 ∷ []) 1000 ∷
    frame (9 ∷ 3 ∷ 160 ∷ 0 ∷ 0 ∷ 0 ∷ 0 ∷ 15 ∷ 212 ∷ []) reply_room ∷
    frame (20 ∷ 3 ∷ 129 ∷ 140 ∷ 0 ∷ 3 ∷ 133 ∷ 114 ∷ 135 ∷ 108 ∷ 25 ∷ 44 ∷ 99 ∷ 173 ∷ 204 ∷ 213 ∷ 167 ∷ 139 ∷ 207 ∷ 28 ∷ []) reply_room ∷
    frame (2 ∷ 0 ∷ 7 ∷ 3 ∷ 99 ∷ 240 ∷ 209 ∷ []) 1000 ∷ sighting 3 0xE0070000016D5E37 2 ∷ sighting 3 0xE0070000016D5E37 63 ∷ tick ∷
    sighting 3 0xE0070000016D5E37 255 ∷ tick ∷ sighting 3 0xE0070000016D5E37 2 ∷ tick ∷ sighting 3 0xE0070000016D5E37 128 ∷
    frame (2 ∷ 0 ∷ 11 ∷ 3 ∷ 160 ∷ 0 ∷ 0 ∷ 0 ∷ 0 ∷ 217 ∷ 69 ∷ []) 1000 ∷
    frame (2 ∷ 0 ∷ 22 ∷ 3 ∷ 129 ∷ 140 ∷ 255 ∷ 255 ∷ 219 ∷ 202 ∷ 173 ∷ 28 ∷ 86 ∷ 232 ∷ 80 ∷ 174 ∷ 8 ∷ 135 ∷ 176 ∷ 236 ∷ 248 ∷ 222 ∷ []) reply_room ∷
    frame (2 ∷ 0 ∷ 7 ∷ 3 ∷ 99 ∷ 240 ∷ 209 ∷ []) reply_room ∷ sighting 3 0xE0070000016D5E37 255 ∷ sighting 3 0xE0070000016D5E37 128 ∷
    tick ∷ sighting 3 0xE0070000016D5E37 255 ∷ frame (2 ∷ 0 ∷ 11 ∷ 3 ∷ 160 ∷ 0 ∷ 0 ∷ 0 ∷ 0 ∷ 217 ∷ 69 ∷ []) reply_room ∷
    frame (6 ∷ 3 ∷ 131 ∷ 140 ∷ 31 ∷ 79 ∷ []) reply_room ∷ frame (5 ∷ 3 ∷ 99 ∷ 123 ∷ 123 ∷ []) 1000 ∷
    frame (2 ∷ 0 ∷ 11 ∷ 2 ∷ 160 ∷ 0 ∷ 0 ∷ 64 ∷ 0 ∷ 148 ∷ 7 ∷ []) reply_room ∷ frame (6 ∷ 2 ∷ 128 ∷ 140 ∷ 171 ∷ 63 ∷ []) reply_room ∷
    frame (9 ∷ 2 ∷ 160 ∷ 0 ∷ 0 ∷ 0 ∷ 0 ∷ 36 ∷ 208 ∷ []) reply_room ∷ frame (6 ∷ 2 ∷ 128 ∷ 0 ∷ 207 ∷ 113 ∷ []) reply_room ∷
    frame (2 ∷ 0 ∷ 22 ∷ 2 ∷ 129 ∷ 192 ∷ 0 ∷ 0 ∷ 64 ∷ 0 ∷ 0 ∷ 0 ∷ 0 ∷ 0 ∷ 0 ∷ 0 ∷ 0 ∷ 0 ∷ 0 ∷ 0 ∷ 145 ∷ 38 ∷ []) reply_room ∷
    frame (20 ∷ 2 ∷ 129 ∷ 0 ∷ 0 ∷ 0 ∷ 64 ∷ 0 ∷ 0 ∷ 0 ∷ 0 ∷ 0 ∷ 0 ∷ 0 ∷ 0 ∷ 0 ∷ 0 ∷ 0 ∷ 249 ∷ 5 ∷ []) reply_room ∷
    frame (20 ∷ 2 ∷ 129 ∷ 128 ∷ 0 ∷ 0 ∷ 64 ∷ 0 ∷ 0 ∷ 0 ∷ 0 ∷ 0 ∷ 0 ∷ 0 ∷ 0 ∷ 0 ∷ 0 ∷ 0 ∷ 140 ∷ 58 ∷ []) reply_room ∷
    frame (2 ∷ 0 ∷ 11 ∷ 2 ∷ 160 ∷ 0 ∷ 0 ∷ 64 ∷ 0 ∷ 148 ∷ 7 ∷ []) 1000 ∷ frame (2 ∷ 0 ∷ 8 ∷ 2 ∷ 130 ∷ 0 ∷ 58 ∷ 239 ∷ []) reply_room ∷
    frame (9 ∷ 2 ∷ 160 ∷ 0 ∷ 0 ∷ 64 ∷ 0 ∷ 66 ∷ 150 ∷ []) reply_room ∷
    frame (2 ∷ 0 ∷ 11 ∷ 2 ∷ 160 ∷ 0 ∷ 0 ∷ 0 ∷ 0 ∷ 242 ∷ 65 ∷ []) reply_room ∷
    frame (2 ∷ 0 ∷ 11 ∷ 5 ∷ 160 ∷ 1 ∷ 0 ∷ 0 ∷ 0 ∷ 152 ∷ 65 ∷ []) reply_room ∷
    frame (2 ∷ 0 ∷ 8 ∷ 5 ∷ 128 ∷ 140 ∷ 235 ∷ 30 ∷ []) reply_room ∷
    frame (2 ∷ 0 ∷ 11 ∷ 5 ∷ 160 ∷ 0 ∷ 0 ∷ 0 ∷ 0 ∷ 35 ∷ 93 ∷ []) reply_room ∷ frame (6 ∷ 5 ∷ 128 ∷ 0 ∷ 202 ∷ 253 ∷ []) reply_room ∷
    frame (2 ∷ 0 ∷ 22 ∷ 5 ∷ 129 ∷ 64 ∷ 1 ∷ 0 ∷ 0 ∷ 0 ∷ 0 ∷ 0 ∷ 0 ∷ 0 ∷ 0 ∷ 0 ∷ 0 ∷ 0 ∷ 0 ∷ 0 ∷ 67 ∷ 64 ∷ []) reply_room ∷
    frame (20 ∷ 5 ∷ 129 ∷ 0 ∷ 1 ∷ 0 ∷ 0 ∷ 0 ∷ 0 ∷ 0 ∷ 0 ∷ 0 ∷ 0 ∷ 0 ∷ 0 ∷ 0 ∷ 0 ∷ 0 ∷ 94 ∷ 92 ∷ []) reply_room ∷
    frame (2 ∷ 0 ∷ 22 ∷ 5 ∷ 129 ∷ 128 ∷ 1 ∷ 0 ∷ 0 ∷ 0 ∷ 0 ∷ 0 ∷ 0 ∷ 0 ∷ 0 ∷ 0 ∷ 0 ∷ 0 ∷ 0 ∷ 0 ∷ 132 ∷ 228 ∷ []) reply_room ∷
    frame (9 ∷ 5 ∷ 160 ∷ 1 ∷ 0 ∷ 0 ∷ 0 ∷ 78 ∷ 208 ∷ []) reply_room ∷ frame (2 ∷ 0 ∷ 8 ∷ 5 ∷ 130 ∷ 0 ∷ 63 ∷ 99 ∷ []) reply_room ∷
    frame (2 ∷ 0 ∷ 11 ∷ 5 ∷ 160 ∷ 1 ∷ 0 ∷ 0 ∷ 0 ∷ 152 ∷ 65 ∷ []) 0 ∷
    frame (2 ∷ 0 ∷ 11 ∷ 5 ∷ 160 ∷ 1 ∷ 0 ∷ 0 ∷ 0 ∷ 152 ∷ 65 ∷ []) reply_room ∷
    frame (9 ∷ 5 ∷ 160 ∷ 0 ∷ 0 ∷ 0 ∷ 0 ∷ 245 ∷ 204 ∷ []) reply_room ∷ frame (2 ∷ 0 ∷ 7 ∷ 1 ∷ 49 ∷ 215 ∷ 155 ∷ []) reply_room ∷
    frame (2 ∷ 0 ∷ 7 ∷ 7 ∷ 134 ∷ 51 ∷ 6 ∷ []) 841 ∷ frame (2 ∷ 0 ∷ 7 ∷ 7 ∷ 134 ∷ 51 ∷ 6 ∷ []) reply_room ∷
    frame (5 ∷ 0 ∷ 49 ∷ 132 ∷ 32 ∷ []) reply_room ∷ frame (5 ∷ 1 ∷ 99 ∷ 203 ∷ 72 ∷ []) reply_room ∷
    frame (2 ∷ 0 ∷ 8 ∷ 3 ∷ 82 ∷ 0 ∷ 221 ∷ 234 ∷ []) reply_room ∷ sighting 1 0xE007000001645737 63 ∷
    sighting 1 0xE007000001645E3E 255 ∷ sighting 1 0xEA07000001645E37 63 ∷ sighting 1 0xE00D000001645E37 2 ∷
    frame (7 ∷ 1 ∷ 34 ∷ 0 ∷ 6 ∷ 90 ∷ 207 ∷ []) reply_room ∷ frame (2 ∷ 0 ∷ 7 ∷ 0 ∷ 49 ∷ 15 ∷ 138 ∷ []) reply_room ∷
    sighting 1 0xE0070A0001645E37 1 ∷ sighting 1 0xE007000A01645E37 63 ∷ sighting 1 0xE00700000B645E37 1 ∷
    frame (2 ∷ 0 ∷ 7 ∷ 1 ∷ 50 ∷ 76 ∷ 161 ∷ []) reply_room ∷ frame (2 ∷ 0 ∷ 7 ∷ 1 ∷ 49 ∷ 215 ∷ 147 ∷ []) reply_room ∷
    frame (7 ∷ 1 ∷ 34 ∷ 0 ∷ 255 ∷ 20 ∷ 165 ∷ []) reply_room ∷ frame (9 ∷ 6 ∷ 160 ∷ 0 ∷ 0 ∷ 0 ∷ 0 ∷ 136 ∷ 192 ∷ []) reply_room ∷
    frame (20 ∷ 6 ∷ 129 ∷ 140 ∷ 0 ∷ 70 ∷ 57 ∷ 1 ∷ 99 ∷ 97 ∷ 122 ∷ 179 ∷ 12 ∷ 210 ∷ 200 ∷ 4 ∷ 33 ∷ 198 ∷ 141 ∷ 177 ∷ []) reply_room ∷
    frame (2 ∷ 0 ∷ 7 ∷ 6 ∷ 100 ∷ 247 ∷ 219 ∷ []) reply_room ∷ sighting 6 0xE0070000016E5E37 128 ∷ sighting 6 0xE007000001645437 2 ∷
    sighting 6 0xE007000001645E3D 1 ∷ sighting 6 0xEB07000001645E37 255 ∷ sighting 6 0xE00C000001645E37 255 ∷
    sighting 6 0xE0070B0001645E37 1 ∷ sighting 6 0xE007000B01645E37 128 ∷ sighting 6 0xE00700000A645E37 1 ∷
    sighting 6 0xE0070000016F5E37 255 ∷ sighting 6 0xE007000001645537 1 ∷ sighting 6 0xE007000001645E3C 255 ∷
    sighting 6 0xEC07000001645E37 255 ∷ sighting 6 0xE00B000001645E37 1 ∷ sighting 6 0xE0070C0001645E37 63 ∷
    sighting 6 0xE007000C01645E37 1 ∷ sighting 6 0xE00700000D645E37 2 ∷ sighting 6 0xE007000001685E37 63 ∷
    sighting 6 0xE007000001645237 1 ∷ sighting 6 0xE007000001645E3B 2 ∷ sighting 6 0xED07000001645E37 63 ∷
    sighting 6 0xE00A000001645E37 255 ∷ sighting 6 0xE0070D0001645E37 63 ∷ sighting 6 0xE007000D01645E37 128 ∷
    sighting 6 0xE00700000C645E37 128 ∷ sighting 6 0xE007000001695E37 128 ∷ sighting 6 0xE007000001645337 255 ∷
    sighting 6 0xE007000001645E3A 63 ∷ sighting 6 0xEE07000001645E37 1 ∷ sighting 6 0xE009000001645E37 1 ∷
    sighting 6 0xE0070E0001645E37 2 ∷ sighting 6 0xE007000E01645E37 255 ∷ sighting 6 0xE00700000F645E37 63 ∷
    sighting 6 0xE0070000016A5E37 1 ∷ sighting 6 0xE007000001645037 1 ∷ sighting 6 0xE007000001645E39 255 ∷
    sighting 6 0xEF07000001645E37 255 ∷ sighting 6 0xE008000001645E37 1 ∷ sighting 6 0xE0070F0001645E37 1 ∷
    sighting 6 0xE007000F01645E37 63 ∷ sighting 6 0xE00700000E645E37 128 ∷ sighting 6 0xE0070000016B5E37 128 ∷
    sighting 6 0xE007000001645137 2 ∷ sighting 6 0xE007000001645E38 1 ∷ sighting 6 0xF007000001645E37 255 ∷
    sighting 6 0xE017000001645E37 255 ∷ sighting 6 0xE007100001645E37 63 ∷ sighting 6 0xE007001001645E37 1 ∷
    sighting 6 0xE007000011645E37 1 ∷ sighting 6 0xE007000001745E37 63 ∷ sighting 6 0xE007000001644E37 1 ∷
    sighting 6 0xE007000001645E27 63 ∷ sighting 6 0xF107000001645E37 2 ∷ sighting 6 0xE016000001645E37 255 ∷
    sighting 6 0xE007110001645E37 255 ∷ sighting 6 0xE007001101645E37 1 ∷ sighting 6 0xE007000010645E37 1 ∷
    sighting 6 0xE007000001755E37 255 ∷ sighting 6 0xE007000001644F37 255 ∷ sighting 6 0xE007000001645E26 2 ∷
    sighting 6 0xF207000001645E37 128 ∷ sighting 6 0xE015000001645E37 63 ∷ sighting 6 0xE007120001645E37 1 ∷
    sighting 6 0xE007001201645E37 255 ∷ sighting 6 0xE007000013645E37 63 ∷ sighting 6 0xE0070000016E5E37 255 ∷
    frame (2 ∷ 0 ∷ 9 ∷ 6 ∷ 34 ∷ 0 ∷ 64 ∷ 77 ∷ 170 ∷ []) reply_room ∷ frame (2 ∷ 0 ∷ 7 ∷ 6 ∷ 50 ∷ 68 ∷ 236 ∷ []) reply_room ∷
    sighting 6 0xE0070000016E5E37 1 ∷ sighting 6 0xE007000001765E37 63 ∷ sighting 6 0xE007000001645437 63 ∷
    sighting 6 0xE0070000016E5E37 63 ∷ sighting 6 0xE007000001645437 1 ∷ sighting 6 0xE007000001644C37 128 ∷
    sighting 6 0xE007000001645E25 1 ∷ sighting 6 0xF307000001645E37 255 ∷ sighting 6 0xE014000001645E37 2 ∷
    sighting 6 0xE007130001645E37 1 ∷ sighting 6 0xE007001301645E37 63 ∷ sighting 6 0xE007000012645E37 2 ∷ tick ∷ tick ∷ tick ∷
    tick ∷ tick ∷ tick ∷ tick ∷ tick ∷ tick ∷ tick ∷ tick ∷ tick ∷ tick ∷ tick ∷ tick ∷ tick ∷ tick ∷ tick ∷ tick ∷ tick ∷ tick ∷
    tick ∷ tick ∷ tick ∷ tick ∷ tick ∷ tick ∷ tick ∷ tick ∷ tick ∷ tick ∷ tick ∷ tick ∷ tick ∷ tick ∷ tick ∷ tick ∷ tick ∷ tick ∷
    tick ∷ tick ∷ tick ∷ tick ∷ tick ∷ tick ∷ tick ∷ tick ∷ tick ∷ tick ∷ tick ∷ tick ∷ tick ∷ tick ∷ tick ∷ tick ∷ tick ∷ tick ∷
    tick ∷ tick ∷ tick ∷ tick ∷ tick ∷ tick ∷ tick ∷ tick ∷ sighting 6 0xE007000001765E37 1 ∷ sighting 6 0xE007000601645E37 2 ∷
    sighting 6 0xE00700000D645E37 255 ∷ sighting 6 0xE007000001745E37 128 ∷ sighting 6 0xE807000001645E37 2 ∷
    sighting 6 0xE507000001645E37 63 ∷ sighting 6 0xE007000001645137 255 ∷ sighting 6 0xE00C000001645E37 128 ∷
    sighting 6 0xE007000001665E37 63 ∷ sighting 6 0xE007000001645E32 1 ∷ sighting 6 0xE007000B01645E37 1 ∷
    sighting 6 0xE007001001645E37 63 ∷ sighting 6 0xE007000001645E38 128 ∷ sighting 6 0xF107000001645E37 1 ∷
    sighting 6 0xE007000001644E37 63 ∷ sighting 6 0xE007000001645E25 2 ∷ sighting 6 0xE007000001645E3F 2 ∷
    sighting 6 0xE007000001645337 128 ∷ sighting 6 0xE002000001645E37 128 ∷ sighting 6 0xEE07000001645E37 255 ∷
    frame (2 ∷ 0 ∷ 7 ∷ 6 ∷ 49 ∷ 223 ∷ 222 ∷ []) 1000 ∷ frame (2 ∷ 0 ∷ 9 ∷ 6 ∷ 34 ∷ 0 ∷ 13 ∷ 172 ∷ 51 ∷ []) reply_room ∷
    frame (5 ∷ 1 ∷ 51 ∷ 78 ∷ []) reply_room ∷ frame (5 ∷ 1 ∷ 51 ∷ 78 ∷ 90 ∷ []) reply_room ∷
    frame (5 ∷ 8 ∷ 51 ∷ 86 ∷ 205 ∷ []) reply_room ∷ frame (2 ∷ 0 ∷ 7 ∷ 1 ∷ 52 ∷ 122 ∷ 196 ∷ []) reply_room ∷
    frame (6 ∷ 1 ∷ 134 ∷ 0 ∷ 123 ∷ 202 ∷ []) 1000 ∷ frame (2 ∷ 0 ∷ 8 ∷ 1 ∷ 82 ∷ 1 ∷ 236 ∷ 78 ∷ []) reply_room ∷
    frame (2 ∷ 0 ∷ 11 ∷ 6 ∷ 160 ∷ 0 ∷ 0 ∷ 0 ∷ 0 ∷ 94 ∷ 81 ∷ []) 1000 ∷
    []

unfoldable pub answers : List Answer
answers =
    refused 2 ∷ reply (2 ∷ 0 ∷ 8 ∷ 2 ∷ 160 ∷ 20 ∷ 28 ∷ 169 ∷ []) ∷ reply (6 ∷ 2 ∷ 128 ∷ 19 ∷ 213 ∷ 83 ∷ []) ∷
    reply (2 ∷ 0 ∷ 8 ∷ 2 ∷ 160 ∷ 0 ∷ 185 ∷ 255 ∷ []) ∷ reply (6 ∷ 2 ∷ 128 ∷ 21 ∷ 227 ∷ 54 ∷ []) ∷
    reply (6 ∷ 2 ∷ 129 ∷ 17 ∷ 31 ∷ 105 ∷ []) ∷ reply (2 ∷ 0 ∷ 8 ∷ 2 ∷ 129 ∷ 22 ∷ 229 ∷ 176 ∷ []) ∷
    reply (2 ∷ 0 ∷ 8 ∷ 2 ∷ 129 ∷ 0 ∷ 82 ∷ 197 ∷ []) ∷ reply (6 ∷ 2 ∷ 160 ∷ 0 ∷ 252 ∷ 82 ∷ []) ∷
    reply (6 ∷ 2 ∷ 130 ∷ 0 ∷ 127 ∷ 66 ∷ []) ∷ reply (2 ∷ 0 ∷ 8 ∷ 2 ∷ 160 ∷ 20 ∷ 28 ∷ 169 ∷ []) ∷ refused 2 ∷
    reply (2 ∷ 0 ∷ 8 ∷ 2 ∷ 160 ∷ 0 ∷ 185 ∷ 255 ∷ []) ∷ reply (6 ∷ 3 ∷ 160 ∷ 0 ∷ 32 ∷ 8 ∷ []) ∷
    reply (2 ∷ 0 ∷ 8 ∷ 3 ∷ 129 ∷ 0 ∷ 142 ∷ 159 ∷ []) ∷ reply (6 ∷ 3 ∷ 130 ∷ 0 ∷ 163 ∷ 24 ∷ []) ∷
    reply (6 ∷ 3 ∷ 99 ∷ 0 ∷ 226 ∷ 232 ∷ []) ∷ reply (2 ∷ 0 ∷ 8 ∷ 3 ∷ 160 ∷ 0 ∷ 101 ∷ 165 ∷ []) ∷
    reply (6 ∷ 3 ∷ 131 ∷ 0 ∷ 123 ∷ 1 ∷ []) ∷
    reply (20 ∷ 3 ∷ 128 ∷ 0 ∷ 0 ∷ 55 ∷ 0 ∷ 0 ∷ 0 ∷ 0 ∷ 0 ∷ 0 ∷ 0 ∷ 0 ∷ 0 ∷ 0 ∷ 0 ∷ 0 ∷ 181 ∷ 59 ∷ []) ∷
    reply (6 ∷ 3 ∷ 82 ∷ 0 ∷ 152 ∷ 71 ∷ []) ∷ reply (2 ∷ 0 ∷ 8 ∷ 3 ∷ 129 ∷ 0 ∷ 142 ∷ 159 ∷ []) ∷
    reply (6 ∷ 3 ∷ 99 ∷ 0 ∷ 226 ∷ 232 ∷ []) ∷ seen Recorded ∷ seen (Ignored 2) ∷ ok ∷ seen (Ignored 1) ∷ ok ∷ seen Recorded ∷
    reply (6 ∷ 3 ∷ 160 ∷ 0 ∷ 32 ∷ 8 ∷ []) ∷ reply (2 ∷ 0 ∷ 8 ∷ 3 ∷ 129 ∷ 0 ∷ 142 ∷ 159 ∷ []) ∷
    reply (2 ∷ 0 ∷ 8 ∷ 3 ∷ 99 ∷ 0 ∷ 167 ∷ 69 ∷ []) ∷ seen Recorded ∷ seen (Ignored 65535) ∷ ok ∷ seen (Ignored 65534) ∷
    reply (2 ∷ 0 ∷ 8 ∷ 3 ∷ 160 ∷ 0 ∷ 101 ∷ 165 ∷ []) ∷ reply (6 ∷ 3 ∷ 131 ∷ 0 ∷ 123 ∷ 1 ∷ []) ∷ refused 2 ∷
    reply (6 ∷ 3 ∷ 99 ∷ 0 ∷ 226 ∷ 232 ∷ []) ∷ seen Recorded ∷ reply (2 ∷ 0 ∷ 8 ∷ 0 ∷ 133 ∷ 0 ∷ 138 ∷ 23 ∷ []) ∷
    reply (6 ∷ 0 ∷ 100 ∷ 0 ∷ 142 ∷ 74 ∷ []) ∷ reply (12 ∷ 0 ∷ 49 ∷ 0 ∷ 0 ∷ 64 ∷ 0 ∷ 0 ∷ 0 ∷ 0 ∷ 39 ∷ 232 ∷ []) ∷
    reply (2 ∷ 0 ∷ 12 ∷ 0 ∷ 134 ∷ 0 ∷ 0 ∷ 0 ∷ 0 ∷ 0 ∷ 243 ∷ 226 ∷ []) ∷ reply (2 ∷ 0 ∷ 8 ∷ 0 ∷ 34 ∷ 146 ∷ 230 ∷ 66 ∷ []) ∷
    refused 6 ∷ seen Recorded ∷ seen (Ignored 55) ∷ ok ∷ refused 31 ∷ refused 4 ∷ refused 5 ∷
    reply (6 ∷ 7 ∷ 52 ∷ 128 ∷ 116 ∷ 145 ∷ []) ∷ reply (6 ∷ 7 ∷ 134 ∷ 129 ∷ 35 ∷ 137 ∷ []) ∷ reply (6 ∷ 7 ∷ 82 ∷ 17 ∷ 241 ∷ 37 ∷ []) ∷
    seen Recorded ∷ seen Recorded ∷ seen Recorded ∷ seen Recorded ∷ seen Recorded ∷ seen Recorded ∷ seen Recorded ∷ seen Recorded ∷
    seen Recorded ∷ seen Recorded ∷ seen Recorded ∷ seen Recorded ∷ seen Recorded ∷ seen Recorded ∷ seen Recorded ∷ seen Recorded ∷
    seen Recorded ∷ seen Recorded ∷ seen Recorded ∷ seen Recorded ∷ seen Recorded ∷ seen Recorded ∷ seen Recorded ∷ seen Recorded ∷
    seen Recorded ∷ seen Recorded ∷ seen Recorded ∷ seen Recorded ∷ seen Recorded ∷ seen Recorded ∷ seen Recorded ∷ seen Recorded ∷
    seen Recorded ∷ seen Recorded ∷ seen Recorded ∷ seen Recorded ∷ seen Recorded ∷ seen Recorded ∷ seen Recorded ∷ seen Recorded ∷
    seen Recorded ∷ seen Recorded ∷ seen Recorded ∷ seen Recorded ∷ seen Recorded ∷ seen Recorded ∷ seen Recorded ∷ seen Recorded ∷
    seen Recorded ∷ seen Recorded ∷ seen Recorded ∷ seen Recorded ∷ seen Recorded ∷ seen Recorded ∷ seen Recorded ∷ seen Recorded ∷
    seen Recorded ∷ seen Recorded ∷ seen Recorded ∷ seen Recorded ∷ seen Recorded ∷ seen Recorded ∷ seen Recorded ∷ seen Recorded ∷
    seen Lost ∷
    reply (255 ∷ 5 ∷ 34 ∷ 147 ∷ 0 ∷ 19 ∷ 224 ∷ 7 ∷ 0 ∷ 0 ∷ 0 ∷ 100 ∷ 94 ∷ 55 ∷ 0 ∷ 0 ∷ 1 ∷ 144 ∷ 128 ∷ 224 ∷ 7 ∷ 0 ∷ 0 ∷ 1 ∷ 101 ∷ 94 ∷ 55 ∷ 0 ∷ 0 ∷ 1 ∷ 144 ∷ 255 ∷ 224 ∷ 7 ∷ 0 ∷ 0 ∷ 1 ∷ 100 ∷ 95 ∷ 55 ∷ 0 ∷ 0 ∷ 1 ∷ 144 ∷ 63 ∷ 224 ∷ 7 ∷ 0 ∷ 0 ∷ 1 ∷ 100 ∷ 94 ∷ 54 ∷ 0 ∷ 0 ∷ 1 ∷ 144 ∷ 2 ∷ 226 ∷ 7 ∷ 0 ∷ 0 ∷ 1 ∷ 100 ∷ 94 ∷ 55 ∷ 0 ∷ 0 ∷ 1 ∷ 144 ∷ 255 ∷ 224 ∷ 5 ∷ 0 ∷ 0 ∷ 1 ∷ 100 ∷ 94 ∷ 55 ∷ 0 ∷ 0 ∷ 1 ∷ 144 ∷ 128 ∷ 224 ∷ 7 ∷ 2 ∷ 0 ∷ 1 ∷ 100 ∷ 94 ∷ 55 ∷ 0 ∷ 0 ∷ 1 ∷ 144 ∷ 2 ∷ 224 ∷ 7 ∷ 0 ∷ 2 ∷ 1 ∷ 100 ∷ 94 ∷ 55 ∷ 0 ∷ 0 ∷ 1 ∷ 144 ∷ 63 ∷ 224 ∷ 7 ∷ 0 ∷ 0 ∷ 3 ∷ 100 ∷ 94 ∷ 55 ∷ 0 ∷ 0 ∷ 1 ∷ 144 ∷ 255 ∷ 224 ∷ 7 ∷ 0 ∷ 0 ∷ 1 ∷ 102 ∷ 94 ∷ 55 ∷ 0 ∷ 0 ∷ 1 ∷ 144 ∷ 255 ∷ 224 ∷ 7 ∷ 0 ∷ 0 ∷ 1 ∷ 100 ∷ 92 ∷ 55 ∷ 0 ∷ 0 ∷ 1 ∷ 144 ∷ 2 ∷ 224 ∷ 7 ∷ 0 ∷ 0 ∷ 1 ∷ 100 ∷ 94 ∷ 53 ∷ 0 ∷ 0 ∷ 1 ∷ 144 ∷ 128 ∷ 227 ∷ 7 ∷ 0 ∷ 0 ∷ 1 ∷ 100 ∷ 94 ∷ 55 ∷ 0 ∷ 0 ∷ 1 ∷ 144 ∷ 255 ∷ 224 ∷ 4 ∷ 0 ∷ 0 ∷ 1 ∷ 100 ∷ 94 ∷ 55 ∷ 0 ∷ 0 ∷ 1 ∷ 144 ∷ 63 ∷ 224 ∷ 7 ∷ 3 ∷ 0 ∷ 1 ∷ 100 ∷ 94 ∷ 55 ∷ 0 ∷ 0 ∷ 1 ∷ 144 ∷ 63 ∷ 224 ∷ 7 ∷ 0 ∷ 3 ∷ 1 ∷ 100 ∷ 94 ∷ 55 ∷ 0 ∷ 0 ∷ 1 ∷ 144 ∷ 2 ∷ 224 ∷ 7 ∷ 0 ∷ 0 ∷ 2 ∷ 100 ∷ 94 ∷ 55 ∷ 0 ∷ 0 ∷ 1 ∷ 144 ∷ 1 ∷ 224 ∷ 7 ∷ 0 ∷ 0 ∷ 1 ∷ 103 ∷ 94 ∷ 55 ∷ 0 ∷ 0 ∷ 1 ∷ 144 ∷ 128 ∷ 224 ∷ 7 ∷ 0 ∷ 0 ∷ 1 ∷ 100 ∷ 93 ∷ 55 ∷ 0 ∷ 0 ∷ 1 ∷ 144 ∷ 128 ∷ 43 ∷ 189 ∷ []) ∷
    reply (6 ∷ 5 ∷ 50 ∷ 0 ∷ 20 ∷ 244 ∷ []) ∷
    reply (255 ∷ 5 ∷ 34 ∷ 148 ∷ 0 ∷ 19 ∷ 224 ∷ 7 ∷ 0 ∷ 0 ∷ 1 ∷ 100 ∷ 94 ∷ 52 ∷ 0 ∷ 0 ∷ 1 ∷ 144 ∷ 255 ∷ 228 ∷ 7 ∷ 0 ∷ 0 ∷ 1 ∷ 100 ∷ 94 ∷ 55 ∷ 0 ∷ 0 ∷ 1 ∷ 144 ∷ 2 ∷ 224 ∷ 3 ∷ 0 ∷ 0 ∷ 1 ∷ 100 ∷ 94 ∷ 55 ∷ 0 ∷ 0 ∷ 1 ∷ 144 ∷ 255 ∷ 224 ∷ 7 ∷ 4 ∷ 0 ∷ 1 ∷ 100 ∷ 94 ∷ 55 ∷ 0 ∷ 0 ∷ 1 ∷ 144 ∷ 63 ∷ 224 ∷ 7 ∷ 0 ∷ 4 ∷ 1 ∷ 100 ∷ 94 ∷ 55 ∷ 0 ∷ 0 ∷ 1 ∷ 144 ∷ 2 ∷ 224 ∷ 7 ∷ 0 ∷ 0 ∷ 5 ∷ 100 ∷ 94 ∷ 55 ∷ 0 ∷ 0 ∷ 1 ∷ 144 ∷ 255 ∷ 224 ∷ 7 ∷ 0 ∷ 0 ∷ 1 ∷ 96 ∷ 94 ∷ 55 ∷ 0 ∷ 0 ∷ 1 ∷ 144 ∷ 1 ∷ 224 ∷ 7 ∷ 0 ∷ 0 ∷ 1 ∷ 100 ∷ 90 ∷ 55 ∷ 0 ∷ 0 ∷ 1 ∷ 144 ∷ 255 ∷ 224 ∷ 7 ∷ 0 ∷ 0 ∷ 1 ∷ 100 ∷ 94 ∷ 51 ∷ 0 ∷ 0 ∷ 1 ∷ 144 ∷ 1 ∷ 229 ∷ 7 ∷ 0 ∷ 0 ∷ 1 ∷ 100 ∷ 94 ∷ 55 ∷ 0 ∷ 0 ∷ 1 ∷ 144 ∷ 63 ∷ 224 ∷ 2 ∷ 0 ∷ 0 ∷ 1 ∷ 100 ∷ 94 ∷ 55 ∷ 0 ∷ 0 ∷ 1 ∷ 144 ∷ 1 ∷ 224 ∷ 7 ∷ 5 ∷ 0 ∷ 1 ∷ 100 ∷ 94 ∷ 55 ∷ 0 ∷ 0 ∷ 1 ∷ 144 ∷ 1 ∷ 224 ∷ 7 ∷ 0 ∷ 5 ∷ 1 ∷ 100 ∷ 94 ∷ 55 ∷ 0 ∷ 0 ∷ 1 ∷ 144 ∷ 63 ∷ 224 ∷ 7 ∷ 0 ∷ 0 ∷ 4 ∷ 100 ∷ 94 ∷ 55 ∷ 0 ∷ 0 ∷ 1 ∷ 144 ∷ 2 ∷ 224 ∷ 7 ∷ 0 ∷ 0 ∷ 1 ∷ 97 ∷ 94 ∷ 55 ∷ 0 ∷ 0 ∷ 1 ∷ 144 ∷ 255 ∷ 224 ∷ 7 ∷ 0 ∷ 0 ∷ 1 ∷ 100 ∷ 91 ∷ 55 ∷ 0 ∷ 0 ∷ 1 ∷ 144 ∷ 128 ∷ 224 ∷ 7 ∷ 0 ∷ 0 ∷ 1 ∷ 100 ∷ 94 ∷ 50 ∷ 0 ∷ 0 ∷ 1 ∷ 144 ∷ 2 ∷ 230 ∷ 7 ∷ 0 ∷ 0 ∷ 1 ∷ 100 ∷ 94 ∷ 55 ∷ 0 ∷ 0 ∷ 1 ∷ 144 ∷ 128 ∷ 224 ∷ 1 ∷ 0 ∷ 0 ∷ 1 ∷ 100 ∷ 94 ∷ 55 ∷ 0 ∷ 0 ∷ 1 ∷ 144 ∷ 1 ∷ 83 ∷ 178 ∷ []) ∷
    reply (21 ∷ 5 ∷ 34 ∷ 0 ∷ 0 ∷ 1 ∷ 224 ∷ 7 ∷ 0 ∷ 0 ∷ 1 ∷ 100 ∷ 94 ∷ 52 ∷ 0 ∷ 0 ∷ 1 ∷ 144 ∷ 255 ∷ 119 ∷ 13 ∷ []) ∷
    reply (2 ∷ 0 ∷ 8 ∷ 5 ∷ 51 ∷ 0 ∷ 137 ∷ 64 ∷ []) ∷ refused 3 ∷ refused 31 ∷ refused 31 ∷ refused 31 ∷ refused 33 ∷
    reply (6 ∷ 7 ∷ 51 ∷ 0 ∷ 116 ∷ 88 ∷ []) ∷ refused 33 ∷ refused 33 ∷ refused 32 ∷ reply (6 ∷ 3 ∷ 160 ∷ 0 ∷ 32 ∷ 8 ∷ []) ∷
    reply (6 ∷ 3 ∷ 129 ∷ 0 ∷ 203 ∷ 50 ∷ []) ∷ reply (2 ∷ 0 ∷ 8 ∷ 3 ∷ 99 ∷ 0 ∷ 167 ∷ 69 ∷ []) ∷ seen Recorded ∷ seen (Ignored 3) ∷
    ok ∷ seen (Ignored 2) ∷ ok ∷ seen (Ignored 1) ∷ ok ∷ seen Recorded ∷ reply (2 ∷ 0 ∷ 8 ∷ 3 ∷ 160 ∷ 0 ∷ 101 ∷ 165 ∷ []) ∷
    reply (2 ∷ 0 ∷ 8 ∷ 3 ∷ 129 ∷ 0 ∷ 142 ∷ 159 ∷ []) ∷ reply (2 ∷ 0 ∷ 8 ∷ 3 ∷ 99 ∷ 0 ∷ 167 ∷ 69 ∷ []) ∷ seen Recorded ∷
    seen (Ignored 65535) ∷ ok ∷ seen (Ignored 65534) ∷ reply (2 ∷ 0 ∷ 8 ∷ 3 ∷ 160 ∷ 0 ∷ 101 ∷ 165 ∷ []) ∷
    reply (6 ∷ 3 ∷ 131 ∷ 0 ∷ 123 ∷ 1 ∷ []) ∷ reply (6 ∷ 3 ∷ 99 ∷ 0 ∷ 226 ∷ 232 ∷ []) ∷
    reply (2 ∷ 0 ∷ 8 ∷ 2 ∷ 160 ∷ 20 ∷ 28 ∷ 169 ∷ []) ∷ reply (6 ∷ 2 ∷ 128 ∷ 19 ∷ 213 ∷ 83 ∷ []) ∷
    reply (6 ∷ 2 ∷ 160 ∷ 0 ∷ 252 ∷ 82 ∷ []) ∷ reply (6 ∷ 2 ∷ 128 ∷ 21 ∷ 227 ∷ 54 ∷ []) ∷
    reply (2 ∷ 0 ∷ 8 ∷ 2 ∷ 129 ∷ 17 ∷ 90 ∷ 196 ∷ []) ∷ reply (6 ∷ 2 ∷ 129 ∷ 22 ∷ 160 ∷ 29 ∷ []) ∷
    reply (6 ∷ 2 ∷ 129 ∷ 0 ∷ 23 ∷ 104 ∷ []) ∷ reply (2 ∷ 0 ∷ 8 ∷ 2 ∷ 160 ∷ 0 ∷ 185 ∷ 255 ∷ []) ∷
    reply (2 ∷ 0 ∷ 8 ∷ 2 ∷ 130 ∷ 0 ∷ 58 ∷ 239 ∷ []) ∷ reply (6 ∷ 2 ∷ 160 ∷ 20 ∷ 89 ∷ 4 ∷ []) ∷
    reply (2 ∷ 0 ∷ 8 ∷ 2 ∷ 160 ∷ 0 ∷ 185 ∷ 255 ∷ []) ∷ reply (2 ∷ 0 ∷ 8 ∷ 5 ∷ 160 ∷ 20 ∷ 25 ∷ 37 ∷ []) ∷
    reply (2 ∷ 0 ∷ 8 ∷ 5 ∷ 128 ∷ 19 ∷ 149 ∷ 114 ∷ []) ∷ reply (2 ∷ 0 ∷ 8 ∷ 5 ∷ 160 ∷ 0 ∷ 188 ∷ 115 ∷ []) ∷
    reply (6 ∷ 5 ∷ 128 ∷ 21 ∷ 230 ∷ 186 ∷ []) ∷ reply (2 ∷ 0 ∷ 8 ∷ 5 ∷ 129 ∷ 17 ∷ 95 ∷ 72 ∷ []) ∷
    reply (6 ∷ 5 ∷ 129 ∷ 22 ∷ 165 ∷ 145 ∷ []) ∷ reply (2 ∷ 0 ∷ 8 ∷ 5 ∷ 129 ∷ 0 ∷ 87 ∷ 73 ∷ []) ∷
    reply (6 ∷ 5 ∷ 160 ∷ 0 ∷ 249 ∷ 222 ∷ []) ∷ reply (2 ∷ 0 ∷ 8 ∷ 5 ∷ 130 ∷ 0 ∷ 63 ∷ 99 ∷ []) ∷ refused 2 ∷
    reply (2 ∷ 0 ∷ 8 ∷ 5 ∷ 160 ∷ 20 ∷ 25 ∷ 37 ∷ []) ∷ reply (6 ∷ 5 ∷ 160 ∷ 0 ∷ 249 ∷ 222 ∷ []) ∷ refused 4 ∷ refused 2 ∷
    reply (2 ∷ 0 ∷ 12 ∷ 7 ∷ 134 ∷ 0 ∷ 0 ∷ 0 ∷ 3 ∷ 32 ∷ 129 ∷ 46 ∷ []) ∷
    reply (12 ∷ 0 ∷ 49 ∷ 0 ∷ 0 ∷ 64 ∷ 0 ∷ 0 ∷ 0 ∷ 0 ∷ 39 ∷ 232 ∷ []) ∷ reply (6 ∷ 1 ∷ 99 ∷ 0 ∷ 90 ∷ 93 ∷ []) ∷
    reply (2 ∷ 0 ∷ 8 ∷ 3 ∷ 82 ∷ 0 ∷ 221 ∷ 234 ∷ []) ∷ seen Recorded ∷ seen Recorded ∷ seen Recorded ∷ seen Recorded ∷
    reply (60 ∷ 1 ∷ 34 ∷ 0 ∷ 0 ∷ 4 ∷ 224 ∷ 7 ∷ 0 ∷ 0 ∷ 1 ∷ 100 ∷ 87 ∷ 55 ∷ 0 ∷ 0 ∷ 3 ∷ 32 ∷ 63 ∷ 224 ∷ 7 ∷ 0 ∷ 0 ∷ 1 ∷ 100 ∷ 94 ∷ 62 ∷ 0 ∷ 0 ∷ 3 ∷ 32 ∷ 255 ∷ 234 ∷ 7 ∷ 0 ∷ 0 ∷ 1 ∷ 100 ∷ 94 ∷ 55 ∷ 0 ∷ 0 ∷ 3 ∷ 32 ∷ 63 ∷ 224 ∷ 13 ∷ 0 ∷ 0 ∷ 1 ∷ 100 ∷ 94 ∷ 55 ∷ 0 ∷ 0 ∷ 3 ∷ 32 ∷ 2 ∷ 207 ∷ 70 ∷ []) ∷
    reply (2 ∷ 0 ∷ 14 ∷ 0 ∷ 49 ∷ 0 ∷ 0 ∷ 64 ∷ 0 ∷ 0 ∷ 0 ∷ 0 ∷ 116 ∷ 177 ∷ []) ∷ seen Recorded ∷ seen Recorded ∷ seen Recorded ∷
    reply (2 ∷ 0 ∷ 8 ∷ 1 ∷ 50 ∷ 0 ∷ 48 ∷ 58 ∷ []) ∷ reply (2 ∷ 0 ∷ 14 ∷ 1 ∷ 49 ∷ 0 ∷ 0 ∷ 64 ∷ 0 ∷ 4 ∷ 0 ∷ 3 ∷ 115 ∷ 173 ∷ []) ∷
    reply (47 ∷ 1 ∷ 34 ∷ 0 ∷ 0 ∷ 3 ∷ 224 ∷ 7 ∷ 10 ∷ 0 ∷ 1 ∷ 100 ∷ 94 ∷ 55 ∷ 0 ∷ 0 ∷ 3 ∷ 32 ∷ 1 ∷ 224 ∷ 7 ∷ 0 ∷ 10 ∷ 1 ∷ 100 ∷ 94 ∷ 55 ∷ 0 ∷ 0 ∷ 3 ∷ 32 ∷ 63 ∷ 224 ∷ 7 ∷ 0 ∷ 0 ∷ 11 ∷ 100 ∷ 94 ∷ 55 ∷ 0 ∷ 0 ∷ 3 ∷ 32 ∷ 1 ∷ 154 ∷ 128 ∷ []) ∷
    reply (6 ∷ 6 ∷ 160 ∷ 0 ∷ 157 ∷ 49 ∷ []) ∷ reply (6 ∷ 6 ∷ 129 ∷ 0 ∷ 118 ∷ 11 ∷ []) ∷
    reply (2 ∷ 0 ∷ 8 ∷ 6 ∷ 100 ∷ 0 ∷ 18 ∷ 49 ∷ []) ∷ seen Recorded ∷ seen Recorded ∷ seen Recorded ∷ seen Recorded ∷ seen Recorded ∷
    seen Recorded ∷ seen Recorded ∷ seen Recorded ∷ seen Recorded ∷ seen Recorded ∷ seen Recorded ∷ seen Recorded ∷ seen Recorded ∷
    seen Recorded ∷ seen Recorded ∷ seen Recorded ∷ seen Recorded ∷ seen Recorded ∷ seen Recorded ∷ seen Recorded ∷ seen Recorded ∷
    seen Recorded ∷ seen Recorded ∷ seen Recorded ∷ seen Recorded ∷ seen Recorded ∷ seen Recorded ∷ seen Recorded ∷ seen Recorded ∷
    seen Recorded ∷ seen Recorded ∷ seen Recorded ∷ seen Recorded ∷ seen Recorded ∷ seen Recorded ∷ seen Recorded ∷ seen Recorded ∷
    seen Recorded ∷ seen Recorded ∷ seen Recorded ∷ seen Recorded ∷ seen Recorded ∷ seen Recorded ∷ seen Recorded ∷ seen Recorded ∷
    seen Recorded ∷ seen Recorded ∷ seen Recorded ∷ seen Recorded ∷ seen Recorded ∷ seen Recorded ∷ seen Recorded ∷ seen Recorded ∷
    seen Recorded ∷ seen Recorded ∷ seen Recorded ∷ seen Recorded ∷ seen Recorded ∷ seen Recorded ∷ seen Recorded ∷ seen Recorded ∷
    seen Recorded ∷ seen Recorded ∷ seen Recorded ∷ seen (Ignored 70) ∷
    reply (2 ∷ 3 ∷ 74 ∷ 6 ∷ 34 ∷ 0 ∷ 0 ∷ 64 ∷ 224 ∷ 7 ∷ 0 ∷ 0 ∷ 1 ∷ 110 ∷ 94 ∷ 55 ∷ 0 ∷ 0 ∷ 0 ∷ 0 ∷ 128 ∷ 224 ∷ 7 ∷ 0 ∷ 0 ∷ 1 ∷ 100 ∷ 84 ∷ 55 ∷ 0 ∷ 0 ∷ 0 ∷ 0 ∷ 2 ∷ 224 ∷ 7 ∷ 0 ∷ 0 ∷ 1 ∷ 100 ∷ 94 ∷ 61 ∷ 0 ∷ 0 ∷ 0 ∷ 0 ∷ 1 ∷ 235 ∷ 7 ∷ 0 ∷ 0 ∷ 1 ∷ 100 ∷ 94 ∷ 55 ∷ 0 ∷ 0 ∷ 0 ∷ 0 ∷ 255 ∷ 224 ∷ 12 ∷ 0 ∷ 0 ∷ 1 ∷ 100 ∷ 94 ∷ 55 ∷ 0 ∷ 0 ∷ 0 ∷ 0 ∷ 255 ∷ 224 ∷ 7 ∷ 11 ∷ 0 ∷ 1 ∷ 100 ∷ 94 ∷ 55 ∷ 0 ∷ 0 ∷ 0 ∷ 0 ∷ 1 ∷ 224 ∷ 7 ∷ 0 ∷ 11 ∷ 1 ∷ 100 ∷ 94 ∷ 55 ∷ 0 ∷ 0 ∷ 0 ∷ 0 ∷ 128 ∷ 224 ∷ 7 ∷ 0 ∷ 0 ∷ 10 ∷ 100 ∷ 94 ∷ 55 ∷ 0 ∷ 0 ∷ 0 ∷ 0 ∷ 1 ∷ 224 ∷ 7 ∷ 0 ∷ 0 ∷ 1 ∷ 111 ∷ 94 ∷ 55 ∷ 0 ∷ 0 ∷ 0 ∷ 0 ∷ 255 ∷ 224 ∷ 7 ∷ 0 ∷ 0 ∷ 1 ∷ 100 ∷ 85 ∷ 55 ∷ 0 ∷ 0 ∷ 0 ∷ 0 ∷ 1 ∷ 224 ∷ 7 ∷ 0 ∷ 0 ∷ 1 ∷ 100 ∷ 94 ∷ 60 ∷ 0 ∷ 0 ∷ 0 ∷ 0 ∷ 255 ∷ 236 ∷ 7 ∷ 0 ∷ 0 ∷ 1 ∷ 100 ∷ 94 ∷ 55 ∷ 0 ∷ 0 ∷ 0 ∷ 0 ∷ 255 ∷ 224 ∷ 11 ∷ 0 ∷ 0 ∷ 1 ∷ 100 ∷ 94 ∷ 55 ∷ 0 ∷ 0 ∷ 0 ∷ 0 ∷ 1 ∷ 224 ∷ 7 ∷ 12 ∷ 0 ∷ 1 ∷ 100 ∷ 94 ∷ 55 ∷ 0 ∷ 0 ∷ 0 ∷ 0 ∷ 63 ∷ 224 ∷ 7 ∷ 0 ∷ 12 ∷ 1 ∷ 100 ∷ 94 ∷ 55 ∷ 0 ∷ 0 ∷ 0 ∷ 0 ∷ 1 ∷ 224 ∷ 7 ∷ 0 ∷ 0 ∷ 13 ∷ 100 ∷ 94 ∷ 55 ∷ 0 ∷ 0 ∷ 0 ∷ 0 ∷ 2 ∷ 224 ∷ 7 ∷ 0 ∷ 0 ∷ 1 ∷ 104 ∷ 94 ∷ 55 ∷ 0 ∷ 0 ∷ 0 ∷ 0 ∷ 63 ∷ 224 ∷ 7 ∷ 0 ∷ 0 ∷ 1 ∷ 100 ∷ 82 ∷ 55 ∷ 0 ∷ 0 ∷ 0 ∷ 0 ∷ 1 ∷ 224 ∷ 7 ∷ 0 ∷ 0 ∷ 1 ∷ 100 ∷ 94 ∷ 59 ∷ 0 ∷ 0 ∷ 0 ∷ 0 ∷ 2 ∷ 237 ∷ 7 ∷ 0 ∷ 0 ∷ 1 ∷ 100 ∷ 94 ∷ 55 ∷ 0 ∷ 0 ∷ 0 ∷ 0 ∷ 63 ∷ 224 ∷ 10 ∷ 0 ∷ 0 ∷ 1 ∷ 100 ∷ 94 ∷ 55 ∷ 0 ∷ 0 ∷ 0 ∷ 0 ∷ 255 ∷ 224 ∷ 7 ∷ 13 ∷ 0 ∷ 1 ∷ 100 ∷ 94 ∷ 55 ∷ 0 ∷ 0 ∷ 0 ∷ 0 ∷ 63 ∷ 224 ∷ 7 ∷ 0 ∷ 13 ∷ 1 ∷ 100 ∷ 94 ∷ 55 ∷ 0 ∷ 0 ∷ 0 ∷ 0 ∷ 128 ∷ 224 ∷ 7 ∷ 0 ∷ 0 ∷ 12 ∷ 100 ∷ 94 ∷ 55 ∷ 0 ∷ 0 ∷ 0 ∷ 0 ∷ 128 ∷ 224 ∷ 7 ∷ 0 ∷ 0 ∷ 1 ∷ 105 ∷ 94 ∷ 55 ∷ 0 ∷ 0 ∷ 0 ∷ 0 ∷ 128 ∷ 224 ∷ 7 ∷ 0 ∷ 0 ∷ 1 ∷ 100 ∷ 83 ∷ 55 ∷ 0 ∷ 0 ∷ 0 ∷ 0 ∷ 255 ∷ 224 ∷ 7 ∷ 0 ∷ 0 ∷ 1 ∷ 100 ∷ 94 ∷ 58 ∷ 0 ∷ 0 ∷ 0 ∷ 0 ∷ 63 ∷ 238 ∷ 7 ∷ 0 ∷ 0 ∷ 1 ∷ 100 ∷ 94 ∷ 55 ∷ 0 ∷ 0 ∷ 0 ∷ 0 ∷ 1 ∷ 224 ∷ 9 ∷ 0 ∷ 0 ∷ 1 ∷ 100 ∷ 94 ∷ 55 ∷ 0 ∷ 0 ∷ 0 ∷ 0 ∷ 1 ∷ 224 ∷ 7 ∷ 14 ∷ 0 ∷ 1 ∷ 100 ∷ 94 ∷ 55 ∷ 0 ∷ 0 ∷ 0 ∷ 0 ∷ 2 ∷ 224 ∷ 7 ∷ 0 ∷ 14 ∷ 1 ∷ 100 ∷ 94 ∷ 55 ∷ 0 ∷ 0 ∷ 0 ∷ 0 ∷ 255 ∷ 224 ∷ 7 ∷ 0 ∷ 0 ∷ 15 ∷ 100 ∷ 94 ∷ 55 ∷ 0 ∷ 0 ∷ 0 ∷ 0 ∷ 63 ∷ 224 ∷ 7 ∷ 0 ∷ 0 ∷ 1 ∷ 106 ∷ 94 ∷ 55 ∷ 0 ∷ 0 ∷ 0 ∷ 0 ∷ 1 ∷ 224 ∷ 7 ∷ 0 ∷ 0 ∷ 1 ∷ 100 ∷ 80 ∷ 55 ∷ 0 ∷ 0 ∷ 0 ∷ 0 ∷ 1 ∷ 224 ∷ 7 ∷ 0 ∷ 0 ∷ 1 ∷ 100 ∷ 94 ∷ 57 ∷ 0 ∷ 0 ∷ 0 ∷ 0 ∷ 255 ∷ 239 ∷ 7 ∷ 0 ∷ 0 ∷ 1 ∷ 100 ∷ 94 ∷ 55 ∷ 0 ∷ 0 ∷ 0 ∷ 0 ∷ 255 ∷ 224 ∷ 8 ∷ 0 ∷ 0 ∷ 1 ∷ 100 ∷ 94 ∷ 55 ∷ 0 ∷ 0 ∷ 0 ∷ 0 ∷ 1 ∷ 224 ∷ 7 ∷ 15 ∷ 0 ∷ 1 ∷ 100 ∷ 94 ∷ 55 ∷ 0 ∷ 0 ∷ 0 ∷ 0 ∷ 1 ∷ 224 ∷ 7 ∷ 0 ∷ 15 ∷ 1 ∷ 100 ∷ 94 ∷ 55 ∷ 0 ∷ 0 ∷ 0 ∷ 0 ∷ 63 ∷ 224 ∷ 7 ∷ 0 ∷ 0 ∷ 14 ∷ 100 ∷ 94 ∷ 55 ∷ 0 ∷ 0 ∷ 0 ∷ 0 ∷ 128 ∷ 224 ∷ 7 ∷ 0 ∷ 0 ∷ 1 ∷ 107 ∷ 94 ∷ 55 ∷ 0 ∷ 0 ∷ 0 ∷ 0 ∷ 128 ∷ 224 ∷ 7 ∷ 0 ∷ 0 ∷ 1 ∷ 100 ∷ 81 ∷ 55 ∷ 0 ∷ 0 ∷ 0 ∷ 0 ∷ 2 ∷ 224 ∷ 7 ∷ 0 ∷ 0 ∷ 1 ∷ 100 ∷ 94 ∷ 56 ∷ 0 ∷ 0 ∷ 0 ∷ 0 ∷ 1 ∷ 240 ∷ 7 ∷ 0 ∷ 0 ∷ 1 ∷ 100 ∷ 94 ∷ 55 ∷ 0 ∷ 0 ∷ 0 ∷ 0 ∷ 255 ∷ 224 ∷ 23 ∷ 0 ∷ 0 ∷ 1 ∷ 100 ∷ 94 ∷ 55 ∷ 0 ∷ 0 ∷ 0 ∷ 0 ∷ 255 ∷ 224 ∷ 7 ∷ 16 ∷ 0 ∷ 1 ∷ 100 ∷ 94 ∷ 55 ∷ 0 ∷ 0 ∷ 0 ∷ 0 ∷ 63 ∷ 224 ∷ 7 ∷ 0 ∷ 16 ∷ 1 ∷ 100 ∷ 94 ∷ 55 ∷ 0 ∷ 0 ∷ 0 ∷ 0 ∷ 1 ∷ 224 ∷ 7 ∷ 0 ∷ 0 ∷ 17 ∷ 100 ∷ 94 ∷ 55 ∷ 0 ∷ 0 ∷ 0 ∷ 0 ∷ 1 ∷ 224 ∷ 7 ∷ 0 ∷ 0 ∷ 1 ∷ 116 ∷ 94 ∷ 55 ∷ 0 ∷ 0 ∷ 0 ∷ 0 ∷ 63 ∷ 224 ∷ 7 ∷ 0 ∷ 0 ∷ 1 ∷ 100 ∷ 78 ∷ 55 ∷ 0 ∷ 0 ∷ 0 ∷ 0 ∷ 1 ∷ 224 ∷ 7 ∷ 0 ∷ 0 ∷ 1 ∷ 100 ∷ 94 ∷ 39 ∷ 0 ∷ 0 ∷ 0 ∷ 0 ∷ 63 ∷ 241 ∷ 7 ∷ 0 ∷ 0 ∷ 1 ∷ 100 ∷ 94 ∷ 55 ∷ 0 ∷ 0 ∷ 0 ∷ 0 ∷ 2 ∷ 224 ∷ 22 ∷ 0 ∷ 0 ∷ 1 ∷ 100 ∷ 94 ∷ 55 ∷ 0 ∷ 0 ∷ 0 ∷ 0 ∷ 255 ∷ 224 ∷ 7 ∷ 17 ∷ 0 ∷ 1 ∷ 100 ∷ 94 ∷ 55 ∷ 0 ∷ 0 ∷ 0 ∷ 0 ∷ 255 ∷ 224 ∷ 7 ∷ 0 ∷ 17 ∷ 1 ∷ 100 ∷ 94 ∷ 55 ∷ 0 ∷ 0 ∷ 0 ∷ 0 ∷ 1 ∷ 224 ∷ 7 ∷ 0 ∷ 0 ∷ 16 ∷ 100 ∷ 94 ∷ 55 ∷ 0 ∷ 0 ∷ 0 ∷ 0 ∷ 1 ∷ 224 ∷ 7 ∷ 0 ∷ 0 ∷ 1 ∷ 117 ∷ 94 ∷ 55 ∷ 0 ∷ 0 ∷ 0 ∷ 0 ∷ 255 ∷ 224 ∷ 7 ∷ 0 ∷ 0 ∷ 1 ∷ 100 ∷ 79 ∷ 55 ∷ 0 ∷ 0 ∷ 0 ∷ 0 ∷ 255 ∷ 224 ∷ 7 ∷ 0 ∷ 0 ∷ 1 ∷ 100 ∷ 94 ∷ 38 ∷ 0 ∷ 0 ∷ 0 ∷ 0 ∷ 2 ∷ 242 ∷ 7 ∷ 0 ∷ 0 ∷ 1 ∷ 100 ∷ 94 ∷ 55 ∷ 0 ∷ 0 ∷ 0 ∷ 0 ∷ 128 ∷ 224 ∷ 21 ∷ 0 ∷ 0 ∷ 1 ∷ 100 ∷ 94 ∷ 55 ∷ 0 ∷ 0 ∷ 0 ∷ 0 ∷ 63 ∷ 224 ∷ 7 ∷ 18 ∷ 0 ∷ 1 ∷ 100 ∷ 94 ∷ 55 ∷ 0 ∷ 0 ∷ 0 ∷ 0 ∷ 1 ∷ 224 ∷ 7 ∷ 0 ∷ 18 ∷ 1 ∷ 100 ∷ 94 ∷ 55 ∷ 0 ∷ 0 ∷ 0 ∷ 0 ∷ 255 ∷ 224 ∷ 7 ∷ 0 ∷ 0 ∷ 19 ∷ 100 ∷ 94 ∷ 55 ∷ 0 ∷ 0 ∷ 0 ∷ 0 ∷ 63 ∷ 71 ∷ 209 ∷ []) ∷
    reply (2 ∷ 0 ∷ 8 ∷ 6 ∷ 50 ∷ 0 ∷ 53 ∷ 182 ∷ []) ∷ seen (Ignored 70) ∷ seen Recorded ∷ seen (Ignored 70) ∷ seen Recorded ∷
    seen Recorded ∷ seen Recorded ∷ seen Recorded ∷ seen Recorded ∷ seen Recorded ∷ seen Recorded ∷ seen Recorded ∷ seen Recorded ∷
    ok ∷ ok ∷ ok ∷ ok ∷ ok ∷ ok ∷ ok ∷ ok ∷ ok ∷ ok ∷ ok ∷ ok ∷ ok ∷ ok ∷ ok ∷ ok ∷ ok ∷ ok ∷ ok ∷ ok ∷ ok ∷ ok ∷ ok ∷ ok ∷ ok ∷ ok ∷
    ok ∷ ok ∷ ok ∷ ok ∷ ok ∷ ok ∷ ok ∷ ok ∷ ok ∷ ok ∷ ok ∷ ok ∷ ok ∷ ok ∷ ok ∷ ok ∷ ok ∷ ok ∷ ok ∷ ok ∷ ok ∷ ok ∷ ok ∷ ok ∷ ok ∷ ok ∷
    ok ∷ ok ∷ ok ∷ ok ∷ ok ∷ ok ∷ ok ∷ ok ∷ ok ∷ ok ∷ ok ∷ ok ∷ ok ∷ seen (Ignored 5) ∷ seen Recorded ∷ seen (Ignored 5) ∷
    seen (Ignored 5) ∷ seen Recorded ∷ seen Recorded ∷ seen (Ignored 5) ∷ seen Recorded ∷ seen Recorded ∷ seen Recorded ∷
    seen Recorded ∷ seen (Ignored 5) ∷ seen (Ignored 5) ∷ seen (Ignored 5) ∷ seen (Ignored 5) ∷ seen (Ignored 5) ∷ seen Recorded ∷
    seen (Ignored 5) ∷ seen Recorded ∷ seen (Ignored 5) ∷ reply (2 ∷ 0 ∷ 14 ∷ 6 ∷ 49 ∷ 0 ∷ 0 ∷ 64 ∷ 0 ∷ 0 ∷ 0 ∷ 19 ∷ 113 ∷ 55 ∷ []) ∷
    reply (2 ∷ 0 ∷ 179 ∷ 6 ∷ 34 ∷ 0 ∷ 0 ∷ 13 ∷ 224 ∷ 7 ∷ 0 ∷ 0 ∷ 1 ∷ 118 ∷ 94 ∷ 55 ∷ 0 ∷ 0 ∷ 0 ∷ 0 ∷ 63 ∷ 224 ∷ 7 ∷ 0 ∷ 0 ∷ 1 ∷ 110 ∷ 94 ∷ 55 ∷ 0 ∷ 0 ∷ 0 ∷ 0 ∷ 63 ∷ 224 ∷ 7 ∷ 0 ∷ 0 ∷ 1 ∷ 100 ∷ 84 ∷ 55 ∷ 0 ∷ 0 ∷ 0 ∷ 0 ∷ 1 ∷ 224 ∷ 7 ∷ 0 ∷ 0 ∷ 1 ∷ 100 ∷ 76 ∷ 55 ∷ 0 ∷ 0 ∷ 0 ∷ 0 ∷ 128 ∷ 224 ∷ 7 ∷ 0 ∷ 0 ∷ 1 ∷ 100 ∷ 94 ∷ 37 ∷ 0 ∷ 0 ∷ 0 ∷ 0 ∷ 1 ∷ 243 ∷ 7 ∷ 0 ∷ 0 ∷ 1 ∷ 100 ∷ 94 ∷ 55 ∷ 0 ∷ 0 ∷ 0 ∷ 0 ∷ 255 ∷ 224 ∷ 20 ∷ 0 ∷ 0 ∷ 1 ∷ 100 ∷ 94 ∷ 55 ∷ 0 ∷ 0 ∷ 0 ∷ 0 ∷ 2 ∷ 224 ∷ 7 ∷ 19 ∷ 0 ∷ 1 ∷ 100 ∷ 94 ∷ 55 ∷ 0 ∷ 0 ∷ 0 ∷ 0 ∷ 1 ∷ 224 ∷ 7 ∷ 0 ∷ 19 ∷ 1 ∷ 100 ∷ 94 ∷ 55 ∷ 0 ∷ 0 ∷ 0 ∷ 0 ∷ 63 ∷ 224 ∷ 7 ∷ 0 ∷ 0 ∷ 18 ∷ 100 ∷ 94 ∷ 55 ∷ 0 ∷ 0 ∷ 0 ∷ 0 ∷ 2 ∷ 224 ∷ 7 ∷ 0 ∷ 6 ∷ 1 ∷ 100 ∷ 94 ∷ 55 ∷ 0 ∷ 0 ∷ 25 ∷ 100 ∷ 2 ∷ 232 ∷ 7 ∷ 0 ∷ 0 ∷ 1 ∷ 100 ∷ 94 ∷ 55 ∷ 0 ∷ 0 ∷ 25 ∷ 100 ∷ 2 ∷ 229 ∷ 7 ∷ 0 ∷ 0 ∷ 1 ∷ 100 ∷ 94 ∷ 55 ∷ 0 ∷ 0 ∷ 25 ∷ 100 ∷ 63 ∷ 123 ∷ 233 ∷ []) ∷
    refused 31 ∷ refused 4 ∷ refused 5 ∷ reply (2 ∷ 0 ∷ 8 ∷ 1 ∷ 52 ∷ 128 ∷ 232 ∷ 234 ∷ []) ∷
    reply (6 ∷ 1 ∷ 134 ∷ 129 ∷ 250 ∷ 95 ∷ []) ∷ reply (2 ∷ 0 ∷ 8 ∷ 1 ∷ 82 ∷ 17 ∷ 109 ∷ 94 ∷ []) ∷
    reply (2 ∷ 0 ∷ 8 ∷ 6 ∷ 160 ∷ 0 ∷ 216 ∷ 156 ∷ []) ∷
    []

pub agree : run fresh_box events ≡ answers
unfolding computed events answers
agree = refl

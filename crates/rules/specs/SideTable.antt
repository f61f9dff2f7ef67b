-- Document 01, "Thresholds": the 296 entries of SIDE_THRESHOLDS, as the published source has them.
-- Assumes nothing.
use Rattle.std.specs.Prelude.{List, [], ◌∷◌, ℤ, pos, negsuc}

abbrev pub side_table : List ℤ
side_table =
    negsuc 15 ∷ negsuc 15 ∷ negsuc 15 ∷ negsuc 15 ∷ negsuc 15 ∷ negsuc 15 ∷ negsuc 15 ∷ negsuc 15 ∷ negsuc 15 ∷ negsuc 15 ∷ negsuc 15 ∷ negsuc 15 ∷
    negsuc 15 ∷ negsuc 15 ∷ negsuc 15 ∷ negsuc 15 ∷ negsuc 15 ∷ negsuc 15 ∷ negsuc 15 ∷ negsuc 15 ∷ negsuc 15 ∷ negsuc 15 ∷ negsuc 15 ∷ negsuc 15 ∷
    negsuc 15 ∷ negsuc 15 ∷ negsuc 15 ∷ negsuc 15 ∷ negsuc 15 ∷ negsuc 15 ∷ negsuc 15 ∷ negsuc 15 ∷ negsuc 15 ∷ negsuc 15 ∷ negsuc 15 ∷ negsuc 15 ∷
    negsuc 15 ∷ negsuc 15 ∷ negsuc 15 ∷ negsuc 15 ∷ negsuc 15 ∷ negsuc 15 ∷ negsuc 15 ∷ negsuc 15 ∷ negsuc 15 ∷ negsuc 15 ∷ negsuc 15 ∷ negsuc 15 ∷
    negsuc 15 ∷ negsuc 15 ∷ negsuc 15 ∷ negsuc 15 ∷ negsuc 15 ∷ negsuc 15 ∷ negsuc 15 ∷ negsuc 15 ∷ negsuc 15 ∷ negsuc 13 ∷ negsuc 12 ∷ negsuc 10 ∷
    negsuc 9 ∷ negsuc 8 ∷ negsuc 6 ∷ negsuc 5 ∷ negsuc 3 ∷ negsuc 2 ∷ negsuc 1 ∷ pos 0 ∷ pos 0 ∷ pos 2 ∷ pos 3 ∷ pos 5 ∷
    pos 6 ∷ pos 7 ∷ pos 9 ∷ pos 10 ∷ pos 12 ∷ pos 13 ∷ pos 15 ∷ pos 16 ∷ pos 17 ∷ pos 19 ∷ pos 20 ∷ pos 22 ∷
    pos 23 ∷ pos 24 ∷ pos 26 ∷ pos 27 ∷ pos 29 ∷ pos 30 ∷ pos 32 ∷ pos 33 ∷ pos 34 ∷ pos 36 ∷ pos 37 ∷ pos 39 ∷
    pos 40 ∷ pos 42 ∷ pos 43 ∷ pos 44 ∷ pos 46 ∷ pos 47 ∷ pos 49 ∷ pos 50 ∷ pos 51 ∷ pos 53 ∷ pos 54 ∷ pos 56 ∷
    pos 57 ∷ pos 59 ∷ pos 60 ∷ pos 61 ∷ pos 63 ∷ pos 64 ∷ pos 66 ∷ pos 67 ∷ pos 69 ∷ pos 70 ∷ pos 71 ∷ pos 73 ∷
    pos 74 ∷ pos 76 ∷ pos 77 ∷ pos 78 ∷ pos 80 ∷ pos 81 ∷ pos 83 ∷ pos 84 ∷ pos 86 ∷ pos 87 ∷ pos 88 ∷ pos 90 ∷
    pos 91 ∷ pos 93 ∷ pos 94 ∷ pos 96 ∷ pos 101 ∷ pos 111 ∷ pos 120 ∷ pos 130 ∷ pos 140 ∷ pos 150 ∷ pos 160 ∷ pos 170 ∷
    pos 180 ∷ pos 190 ∷ pos 200 ∷ pos 210 ∷ pos 220 ∷ pos 230 ∷ pos 240 ∷ pos 249 ∷ pos 259 ∷ pos 269 ∷ pos 279 ∷ pos 289 ∷
    pos 299 ∷ pos 309 ∷ pos 319 ∷ pos 329 ∷ pos 339 ∷ pos 349 ∷ pos 359 ∷ pos 368 ∷ pos 378 ∷ pos 388 ∷ pos 398 ∷ pos 408 ∷
    pos 418 ∷ pos 428 ∷ pos 438 ∷ pos 448 ∷ pos 458 ∷ pos 468 ∷ pos 478 ∷ pos 488 ∷ pos 497 ∷ pos 507 ∷ pos 517 ∷ pos 527 ∷
    pos 537 ∷ pos 547 ∷ pos 557 ∷ pos 567 ∷ pos 577 ∷ pos 587 ∷ pos 597 ∷ pos 607 ∷ pos 616 ∷ pos 626 ∷ pos 636 ∷ pos 646 ∷
    pos 656 ∷ pos 666 ∷ pos 676 ∷ pos 686 ∷ pos 696 ∷ pos 706 ∷ pos 716 ∷ pos 726 ∷ pos 736 ∷ pos 745 ∷ pos 755 ∷ pos 765 ∷
    pos 775 ∷ pos 785 ∷ pos 795 ∷ pos 805 ∷ pos 815 ∷ pos 825 ∷ pos 835 ∷ pos 845 ∷ pos 855 ∷ pos 864 ∷ pos 874 ∷ pos 884 ∷
    pos 894 ∷ pos 904 ∷ pos 914 ∷ pos 924 ∷ pos 934 ∷ pos 944 ∷ pos 954 ∷ pos 964 ∷ pos 974 ∷ pos 984 ∷ pos 993 ∷ pos 1003 ∷
    pos 1013 ∷ pos 1023 ∷ pos 1033 ∷ pos 1043 ∷ pos 1053 ∷ pos 1063 ∷ pos 1073 ∷ pos 1083 ∷ pos 1093 ∷ pos 1103 ∷ pos 1112 ∷ pos 1122 ∷
    pos 1132 ∷ pos 1142 ∷ pos 1152 ∷ pos 1162 ∷ pos 1172 ∷ pos 1182 ∷ pos 1192 ∷ pos 1202 ∷ pos 1212 ∷ pos 1222 ∷ pos 1232 ∷ pos 1241 ∷
    pos 1251 ∷ pos 1261 ∷ pos 1271 ∷ pos 1281 ∷ pos 1291 ∷ pos 1301 ∷ pos 1311 ∷ pos 1321 ∷ pos 1331 ∷ pos 1341 ∷ pos 1351 ∷ pos 1360 ∷
    pos 1370 ∷ pos 1380 ∷ pos 1390 ∷ pos 1400 ∷ pos 1410 ∷ pos 1420 ∷ pos 1430 ∷ pos 1440 ∷ pos 1450 ∷ pos 1460 ∷ pos 1470 ∷ pos 1480 ∷
    pos 1489 ∷ pos 1499 ∷ pos 1509 ∷ pos 1519 ∷ pos 1529 ∷ pos 1539 ∷ pos 1549 ∷ pos 1559 ∷ pos 1569 ∷ pos 1579 ∷ pos 1589 ∷ pos 1599 ∷
    pos 1608 ∷ pos 1618 ∷ pos 1628 ∷ pos 1638 ∷ pos 1648 ∷ pos 1658 ∷ pos 1668 ∷ pos 1678 ∷ []

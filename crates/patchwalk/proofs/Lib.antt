mod PrintLaws
